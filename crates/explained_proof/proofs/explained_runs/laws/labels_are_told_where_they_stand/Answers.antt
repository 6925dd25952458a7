use Rattle.explained_proof.proofs.ExplainedRuns.Labels.{labels_are_told}
use Rattle.explained_proof.proofs.explained_runs.laws.labels_are_told_where_they_stand.Goals as goal

pub returns : goal.returns
returns c = labels_are_told
