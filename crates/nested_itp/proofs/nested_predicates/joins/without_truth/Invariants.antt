use Rattle.std.proofs.Common.{vec_len}
use Rattle.nested_itp.proofs.NestedPredicates.SimplifyingLaws.{NodesLeft}
use Rattle.nested_itp.proofs.nested_predicates.joins.without_truth.Given as goal

abbrev pub invariant-loop-node : goal.invariant-loop-node
invariant-loop-node l = NodesLeft l.fn.nodes.items l.left.items l.simplifier

abbrev pub decreases-loop-node : goal.decreases-loop-node
decreases-loop-node l = vec_len l.left
