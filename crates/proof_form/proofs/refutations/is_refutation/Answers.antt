use Rattle.std.proofs.Common.{map}
use Rattle.proof_form.specs.Refutations.{plain_refutation_node, refutation_parts, is_refutation_node}
use Rattle.proof_form.specs.Trees.{is_tree}
use Rattle.proof_form.proofs.CountLaws.{seen_and, seen_not}
use Rattle.proof_form.proofs.refutations.is_refutation.Goals as goal

pub returns-then-are_nodes : goal.returns-then-are_nodes
returns-then-are_nodes c = seen_and is_refutation_node plain_refutation_node c.args.nodes.now _ (is_tree refutation_parts (map plain_refutation_node c.args.nodes.now)) c.if-are_nodes.ensures c.is_whole.ensures

pub returns-else-are_nodes : goal.returns-else-are_nodes
returns-else-are_nodes c = seen_not is_refutation_node plain_refutation_node c.args.nodes.now _ (is_tree refutation_parts (map plain_refutation_node c.args.nodes.now)) c.if-are_nodes.ensures c.if-are_nodes.false
