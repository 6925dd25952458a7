use Rattle.proof_form.specs.Predicates.{plain_predicate_node, parts}
use Rattle.proof_form.proofs.CountLaws.{Counted}
use Rattle.proof_form.proofs.predicates.is_whole.Given as goal

abbrev pub invariant-loop-left : goal.invariant-loop-left
invariant-loop-left l = Counted plain_predicate_node parts l.nodes l.left l.count

abbrev pub decreases-loop-left : goal.decreases-loop-left
decreases-loop-left l = l.left
