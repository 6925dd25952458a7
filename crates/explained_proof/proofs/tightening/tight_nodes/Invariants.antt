use Rattle.std.proofs.Common.{◌≡◌, map, take}
use Rattle.explained_proof.specs.Tightened as spec
use Rattle.explained_proof.proofs.tightening.tight_nodes.Given as goal

abbrev pub invariant-loop-node : goal.invariant-loop-node
invariant-loop-node l = l.list.items ≡ map spec.tight_node (take l.node-index l.nodes)
