use Rattle.std.proofs.Common.{◌≡◌, take}
use Rattle.std.specs.List.{AllByRecursion}
use Rattle.lin_rows.specs.Rows.{IsRow}
use Rattle.lin_rows.proofs.systems.copied_rows.Given as goal

abbrev pub invariant-loop-row : goal.invariant-loop-row
invariant-loop-row l = record {
  copies : l.copies.items ≡ take l.row-index l.rows;
  valid : AllByRecursion IsRow l.copies.items;
}
