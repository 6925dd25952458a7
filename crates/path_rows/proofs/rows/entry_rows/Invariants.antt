use Rattle.std.proofs.Common.{◌≡◌, take}
use Rattle.std.specs.List.{AllByRecursion}
use Rattle.lin_rows.specs.Rows.{IsRow}
use Rattle.path_rows.specs.Versions.{entry_rows}
use Rattle.path_rows.proofs.rows.entry_rows.Given as goal

abbrev pub invariant-loop-i : goal.invariant-loop-i
invariant-loop-i l = (l.made.items ≡ entry_rows l.first (take l.i l.globals)) × AllByRecursion IsRow l.made.items
