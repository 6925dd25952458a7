use Rattle.explained_proof.proofs.ExplainedRuns.Sited.{loops_are_told}
use Rattle.explained_proof.proofs.explained_runs.laws.loops_are_told_where_they_stand.Goals as goal

pub returns : goal.returns
returns c = loops_are_told
