use Rattle.trace_replay.proofs.FailureLaws.{one_first_fault}
use Rattle.trace_replay.proofs.laws.one_first_fault.Goals as goal

pub returns : goal.returns
returns c = one_first_fault
