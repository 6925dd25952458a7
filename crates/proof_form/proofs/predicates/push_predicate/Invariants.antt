use Rattle.std.proofs.Common.{◌++◌, map}
use Rattle.proof_form.specs.Predicates.{plain_predicate_node, head, parts}
use Rattle.proof_form.specs.Trees.{tree_text}
use Rattle.proof_form.proofs.PendingLaws.{Pending}
use Rattle.proof_form.proofs.predicates.push_predicate.Given as goal

abbrev pub invariant-loop-node : goal.invariant-loop-node
invariant-loop-node l = Pending plain_predicate_node head parts l.out.items l.left l.outer.items l.nodes l.node-index (l.fn.out.items ++ tree_text head parts (map plain_predicate_node l.nodes))
