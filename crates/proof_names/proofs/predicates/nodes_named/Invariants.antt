use Rattle.proof_form.specs.Predicates.{plain_predicate_node}
use Rattle.proof_names.specs.Predicates.{node_named}
use Rattle.proof_names.proofs.AllLaws.{Found}
use Rattle.proof_names.proofs.predicates.nodes_named.Given as goal

abbrev pub invariant-loop-node : goal.invariant-loop-node
invariant-loop-node l = Found (λ n. node_named l.frame (plain_predicate_node n)) l.nodes l.node-index l.named.items
