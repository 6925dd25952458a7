use Rattle.std.proofs.Common.{◌≡◌, drop, map}
use Rattle.std.specs.List.{list_all}
use Rattle.proof_form.specs.Lines.{node, is_node}
use Rattle.proof_form.proofs.making.are_nodes.Given as goal

abbrev pub invariant-loop-node : goal.invariant-loop-node
invariant-loop-node l = list_all is_node (map node (drop l.node-index l.nodes)) ≡ list_all is_node (map node l.nodes)
