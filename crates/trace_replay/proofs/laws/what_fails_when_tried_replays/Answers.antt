use Rattle.trace_replay.proofs.TriedLaws.{tried_fails_replays}
use Rattle.trace_replay.proofs.laws.what_fails_when_tried_replays.Goals as goal

pub returns : goal.returns
returns c = tried_fails_replays
