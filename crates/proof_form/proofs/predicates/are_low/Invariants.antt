use Rattle.proof_form.proofs.HeightLaws.{Low}
use Rattle.proof_form.proofs.predicates.are_low.Given as goal

abbrev pub invariant-loop-left : goal.invariant-loop-left
invariant-loop-left l = Low l.nodes l.left l.heights.items

abbrev pub decreases-loop-left : goal.decreases-loop-left
decreases-loop-left l = l.left
