use Rattle.std.proofs.Common.{length}
use Rattle.lin_rows.proofs.MakingLemmas.{IsMaking}
use Rattle.lin_rows.proofs.make.added_up.Given as goal

abbrev pub invariant-loop-left : goal.invariant-loop-left
invariant-loop-left l = IsMaking l.terms l.sum.items l.left

abbrev pub decreases-loop-left : goal.decreases-loop-left
decreases-loop-left l = length l.left
