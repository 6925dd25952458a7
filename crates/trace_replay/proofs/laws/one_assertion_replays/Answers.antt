use Rattle.trace_replay.proofs.ReplayLaws.{one_assertion_replays}
use Rattle.trace_replay.proofs.laws.one_assertion_replays.Goals as goal

pub returns : goal.returns
returns c = one_assertion_replays
