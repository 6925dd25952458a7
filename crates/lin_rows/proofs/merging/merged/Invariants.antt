use Rattle.std.proofs.Common.{◌+◌, length}
use Rattle.lin_rows.proofs.MergingLemmas.{IsMerging}
use Rattle.lin_rows.proofs.merging.merged.Given as goal

abbrev pub invariant-loop-column : goal.invariant-loop-column
invariant-loop-column l = IsMerging l.a l.m l.b l.sum.items l.left l.right

abbrev pub decreases-loop-column : goal.decreases-loop-column
decreases-loop-column l = length l.left + length l.right
