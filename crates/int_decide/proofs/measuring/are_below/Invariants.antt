use Rattle.std.proofs.Common.{take}
use Rattle.lin_rows.specs.Rows.{RowsBelow}
use Rattle.int_decide.proofs.measuring.are_below.Given as goal

abbrev pub invariant-loop-row : goal.invariant-loop-row
invariant-loop-row l = RowsBelow l.columns (take l.row-index l.rows)
