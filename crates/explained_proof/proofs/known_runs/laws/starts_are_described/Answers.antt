use Rattle.explained_proof.proofs.KnownRuns.Describing.{starts_are_described}
use Rattle.explained_proof.proofs.known_runs.laws.starts_are_described.Goals as goal

pub returns : goal.returns
returns c = starts_are_described
