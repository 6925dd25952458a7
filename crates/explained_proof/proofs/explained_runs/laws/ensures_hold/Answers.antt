use Rattle.explained_proof.proofs.ExplainedRuns.Holding.{ensures_hold}
use Rattle.explained_proof.proofs.explained_runs.laws.ensures_hold.Goals as goal

pub returns : goal.returns
returns c = ensures_hold
