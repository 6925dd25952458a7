use Rattle.std.proofs.Common.{◌≡◌, map, take}
use Rattle.std.specs.List.{AllByRecursion}
use Rattle.lin_rows.specs.Rows.{IsRow}
use Rattle.lin_rows.specs.Tightening.{tightened}
use Rattle.nested_itp.proofs.nested_predicates.tables.tightened.Given as goal

abbrev pub invariant-loop-i : goal.invariant-loop-i
invariant-loop-i l = record {
  rows : l.tight.items ≡ map tightened (take l.i l.rows);
  valid : AllByRecursion IsRow l.tight.items;
}
