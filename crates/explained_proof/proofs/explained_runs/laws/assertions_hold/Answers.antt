use Rattle.explained_proof.proofs.ExplainedRuns.Labels.{assertions_hold}
use Rattle.explained_proof.proofs.explained_runs.laws.assertions_hold.Goals as goal

pub returns : goal.returns
returns c = assertions_hold
