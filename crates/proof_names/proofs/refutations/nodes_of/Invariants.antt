use Rattle.farkas_check.specs.Nodes.{plain_nodes}
use Rattle.proof_form.specs.Refutations.{plain_refutation_node}
use Rattle.proof_names.specs.Refutations.{node_of}
use Rattle.proof_names.proofs.AllLaws.{Found}
use Rattle.proof_names.proofs.refutations.nodes_of.Given as goal

abbrev pub invariant-loop-node : goal.invariant-loop-node
invariant-loop-node l = Found (λ n. node_of (plain_refutation_node n)) l.nodes l.node-index (plain_nodes l.named.items)
