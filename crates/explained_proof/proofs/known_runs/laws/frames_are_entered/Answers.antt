use Rattle.explained_proof.proofs.KnownRuns.Describing.{frames_are_entered}
use Rattle.explained_proof.proofs.known_runs.laws.frames_are_entered.Goals as goal

pub returns : goal.returns
returns c = frames_are_entered
