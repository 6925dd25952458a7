use Rattle.explained_proof.proofs.RowExpressions.RowWorth.{conclusions_follow, premises_imply}
use Rattle.explained_proof.proofs.row_expressions.laws.rows_are_said_soundly.Goals as goal

pub returns : goal.returns
returns c = record { conclusions = conclusions_follow; premises = premises_imply }
