use Rattle.std.proofs.Common.{◌≡◌, take}
use Rattle.farkas_check.specs.Nodes.{plain_nodes}
use Rattle.farkas_check.proofs.refutations.copied_nodes.Given as goal

abbrev pub invariant-loop-node : goal.invariant-loop-node
invariant-loop-node l = plain_nodes l.copies.items ≡ plain_nodes (take l.node-index l.nodes.items)
