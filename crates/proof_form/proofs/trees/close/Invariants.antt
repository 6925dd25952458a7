use Rattle.std.proofs.Common.{vec_len}
use Rattle.proof_form.proofs.PendingLaws.{Closed}
use Rattle.proof_form.proofs.trees.close.Given as goal

abbrev pub invariant-loop-left : goal.invariant-loop-left
invariant-loop-left l = Closed l.out.items l.fn.out.items l.left l.outer.items l.fn.left l.fn.outer.items

abbrev pub decreases-loop-left : goal.decreases-loop-left
decreases-loop-left l = vec_len l.outer
