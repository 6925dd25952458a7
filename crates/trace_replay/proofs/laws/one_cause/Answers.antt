use Rattle.trace_replay.proofs.ReplayLaws.{one_cause}
use Rattle.trace_replay.proofs.laws.one_cause.Goals as goal

pub returns : goal.returns
returns c = one_cause
