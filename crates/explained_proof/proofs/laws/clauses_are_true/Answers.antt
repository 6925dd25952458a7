use Rattle.explained_proof.proofs.ReadingWorth.{values_are_readings, clauses_are_true}
use Rattle.explained_proof.proofs.laws.clauses_are_true.Goals as goal

pub returns : goal.returns
returns c = record { readings = values_are_readings; clauses = clauses_are_true }
