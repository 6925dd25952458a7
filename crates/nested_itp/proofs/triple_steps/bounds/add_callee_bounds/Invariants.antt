use Rattle.nested_itp.proofs.TripleSteps.BoundLaws.{BoundsRead}
use Rattle.nested_itp.proofs.triple_steps.bounds.add_callee_bounds.Given as goal

abbrev pub invariant-loop-i : goal.invariant-loop-i
invariant-loop-i l = BoundsRead l.initial.sections.items l.local l.old l.callee l.i l.sections.items l.next.local_row l.next.old_row
