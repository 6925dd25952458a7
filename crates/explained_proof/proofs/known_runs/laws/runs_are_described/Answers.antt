use Rattle.explained_proof.proofs.KnownRuns.Describing.{runs_are_described}
use Rattle.explained_proof.proofs.known_runs.laws.runs_are_described.Goals as goal

pub returns : goal.returns
returns c = runs_are_described
