use Rattle.explained_proof.proofs.KnownRuns.Describing.{frames_are_described}
use Rattle.explained_proof.proofs.known_runs.laws.frames_are_described.Goals as goal

pub returns : goal.returns
returns c = frames_are_described
