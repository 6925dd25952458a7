use Rattle.explained_proof.proofs.ExplainedRuns.Sited.{heads_are_listed}
use Rattle.explained_proof.proofs.explained_runs.laws.heads_are_listed.Goals as goal

pub returns : goal.returns
returns c = heads_are_listed
