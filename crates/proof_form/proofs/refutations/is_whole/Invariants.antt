use Rattle.proof_form.specs.Refutations.{plain_refutation_node, refutation_parts}
use Rattle.proof_form.proofs.CountLaws.{Counted}
use Rattle.proof_form.proofs.refutations.is_whole.Given as goal

abbrev pub invariant-loop-left : goal.invariant-loop-left
invariant-loop-left l = Counted plain_refutation_node refutation_parts l.nodes l.left l.count

abbrev pub decreases-loop-left : goal.decreases-loop-left
decreases-loop-left l = l.left
