use Rattle.std.proofs.Common.{true, false}
use Rattle.farkas_check.specs.Nodes.{plain_nodes}
use Rattle.farkas_check.proofs.TreeLaws.{counted_is}
use Rattle.farkas_check.proofs.refutations.tree.Goals as goal

pub returns-then-is_tree-clause-whole : goal.returns-then-is_tree-clause-whole
returns-then-is_tree-clause-whole c = counted_is true (plain_nodes c.args.nodes.items) (rw c.deref.ensures.value at c.if-is_tree.ensures)

pub returns-else-is_tree-clause-whole : goal.returns-else-is_tree-clause-whole
returns-else-is_tree-clause-whole c = counted_is false (plain_nodes c.args.nodes.items) (rw c.deref.ensures.value at c.if-is_tree.ensures)
