use Rattle.explained_proof.proofs.ClauseWorth.{clauses_true}
use Rattle.explained_proof.proofs.laws.clauses_hold.Goals as goal

pub returns : goal.returns
returns c = clauses_true
