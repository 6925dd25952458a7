use Rattle.std.proofs.Common.{◌≡◌, take, map}
use Rattle.std.specs.List.{AllByRecursion}
use Rattle.lin_rows.specs.Rows.{IsRow}
use Rattle.lin_rows.specs.Tightening.{tightened}
use Rattle.int_decide.proofs.without_cuts.are_tight.Given as goal

abbrev pub invariant-loop-row : goal.invariant-loop-row
invariant-loop-row l = record {
  same : map tightened (take l.row-index l.rows) ≡ take l.row-index l.rows;
  valid : AllByRecursion IsRow (take l.row-index l.rows);
}
