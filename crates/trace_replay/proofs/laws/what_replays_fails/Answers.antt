use Rattle.trace_replay.proofs.ReplayFailures.{replays_fails}
use Rattle.trace_replay.proofs.laws.what_replays_fails.Goals as goal

pub returns : goal.returns
returns c t n choices i replays = (c.machine_follows_rules.ensures t i).0 (replays_fails t n choices i replays)
