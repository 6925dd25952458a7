use Rattle.std.proofs.Common.{◌++◌, map}
use Rattle.proof_form.specs.Refutations.{plain_refutation_node, refutation_head, refutation_parts}
use Rattle.proof_form.specs.Trees.{tree_text}
use Rattle.proof_form.proofs.PendingLaws.{Pending}
use Rattle.proof_form.proofs.refutations.push_refutation.Given as goal

abbrev pub invariant-loop-node : goal.invariant-loop-node
invariant-loop-node l = Pending plain_refutation_node refutation_head refutation_parts l.out.items l.left l.outer.items l.nodes l.node-index (l.fn.out.items ++ tree_text refutation_head refutation_parts (map plain_refutation_node l.nodes))
