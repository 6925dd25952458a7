use Rattle.explained_proof.proofs.ExplainedRuns.Holding.{bodies_hold}
use Rattle.explained_proof.proofs.explained_runs.laws.bodies_hold.Goals as goal

pub returns : goal.returns
returns c = bodies_hold
