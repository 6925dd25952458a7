use Rattle.trace_replay.proofs.TriedLaws.{front_fails_alone}
use Rattle.trace_replay.proofs.laws.fronts_fail_alone.Goals as goal

pub returns : goal.returns
returns c = front_fails_alone
