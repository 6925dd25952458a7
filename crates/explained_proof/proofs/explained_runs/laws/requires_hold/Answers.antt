use Rattle.explained_proof.proofs.ExplainedRuns.Required.{requires_hold}
use Rattle.explained_proof.proofs.explained_runs.laws.requires_hold.Goals as goal

pub returns : goal.returns
returns c = requires_hold
