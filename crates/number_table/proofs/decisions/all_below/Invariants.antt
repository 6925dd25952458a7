use Rattle.std.proofs.Common.{drop}
use Rattle.lin_rows.specs.Rows.{RowsBelow}
use Rattle.number_table.proofs.decisions.all_below.Given as goal

abbrev pub invariant-loop-row : goal.invariant-loop-row
invariant-loop-row l = RowsBelow l.columns (drop l.row-index l.rows) → RowsBelow l.columns l.rows
