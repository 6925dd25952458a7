use Rattle.std.proofs.Common.{◌<ℤ◌, pos}
use Rattle.int_decide.proofs.meeting.common_denominator.Given as goal

abbrev pub invariant-loop-value : goal.invariant-loop-value
invariant-loop-value l = pos 0 <ℤ l.common
