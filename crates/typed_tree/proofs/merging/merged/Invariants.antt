use Rattle.std.proofs.Common.{◌+◌, length}
use Rattle.typed_tree.proofs.Merged.{IsMerging}
use Rattle.typed_tree.proofs.merging.merged.Given as goal

abbrev pub invariant-loop-terms : goal.invariant-loop-terms
invariant-loop-terms l = IsMerging l.a l.b l.terms.items l.left l.right

abbrev pub decreases-loop-terms : goal.decreases-loop-terms
decreases-loop-terms l = length l.left + length l.right
