use Rattle.std.proofs.Common.{◌≡◌, take}
use Rattle.std.specs.List.{AllByRecursion}
use Rattle.lin_rows.specs.Rows.{IsRow}
use Rattle.letter_acts.specs.FrameRows.Rows.{bounds}
use Rattle.letter_acts.proofs.frame_rows.rows.bound_rows.Given as goal

abbrev pub invariant-loop-i : goal.invariant-loop-i
invariant-loop-i l = (l.made.items ≡ bounds l.first (take l.i l.types)) × AllByRecursion IsRow l.made.items
