use Rattle.trace_replay.proofs.ReplayLaws.{replays_and_stops}
use Rattle.trace_replay.proofs.laws.what_replays_does_not_stop.Goals as goal

pub returns : goal.returns
returns c = replays_and_stops
