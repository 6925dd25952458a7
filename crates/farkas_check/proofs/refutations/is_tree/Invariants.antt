use Rattle.std.proofs.Common.{◌≡◌, ◌+◌, ◌*◌, ◌^◌, ◌≤◌, drop}
use Rattle.farkas_check.specs.Nodes.{plain_nodes, are_trees, is_tree}
use Rattle.farkas_check.proofs.refutations.is_tree.Given as goal

abbrev pub invariant-loop-node : goal.invariant-loop-node
invariant-loop-node l = record {
  few : l.missing ≤ 1 + 2 ^ 32 * l.node-index;
  trees : are_trees l.missing (drop l.node-index (plain_nodes l.nodes)) ≡ is_tree (plain_nodes l.nodes);
}
