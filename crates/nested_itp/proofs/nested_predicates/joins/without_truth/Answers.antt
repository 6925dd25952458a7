use Rattle.std.proofs.Common.{rules}
use Rattle.nested_itp.proofs.NestedPredicates.SimplifyingLaws.{node_finds, node_read, one_tree_left}
use Rattle.nested_itp.proofs.nested_predicates.joins.without_truth.Goals as goal

pub read-requires : goal.read-requires
read-requires c =
    node_finds c.args.nodes.items c.loop-node.left.items c.pop.new.self.items c.in-Some.node c.loop-node.simplifier c.requires c.in-Some.ensures.items c.loop-node.invariant

pub loop-node-preserved : goal.loop-node-preserved
loop-node-preserved c =
    node_read c.args.nodes.items c.loop-node.left.items c.pop.new.self.items c.in-Some.node c.loop-node.simplifier c.read.new.self c.requires c.in-Some.ensures.items
    c.loop-node.invariant c.in_ok-read.ensures

pub tree-requires : goal.tree-requires
tree-requires c = one_tree_left c.args.nodes.items c.loop-node.left.items c.loop-node.simplifier c.requires (search rules) c.loop-node.invariant
