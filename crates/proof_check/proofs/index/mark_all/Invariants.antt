use Rattle.std.proofs.Common.{take}
use Rattle.std.specs.HashSet.{contains}
use Rattle.proof_check.specs.Ties.Plans.{MarksAll}
use Rattle.proof_check.proofs.EntryLaws.{same_two}
use Rattle.proof_check.proofs.index.mark_all.Given as goal

abbrev pub invariant-loop-pred : goal.invariant-loop-pred
invariant-loop-pred l = MarksAll (contains same_two l.initial.marks) l.number (take l.pred-index l.preds) (contains same_two l.marks)
