use Rattle.explained_proof.proofs.ClauseWorth.{requirements_true}
use Rattle.explained_proof.proofs.laws.requirements_hold.Goals as goal

pub returns : goal.returns
returns c = requirements_true
