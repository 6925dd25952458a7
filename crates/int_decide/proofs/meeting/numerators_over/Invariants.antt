use Rattle.std.proofs.Common.{take}
use Rattle.int_decide.specs.Ties.Picking.{AreOver}
use Rattle.int_decide.proofs.meeting.numerators_over.Given as goal

abbrev pub invariant-loop-value : goal.invariant-loop-value
invariant-loop-value l = AreOver l.denominator (take l.value-index l.values) l.numerators.items
