use Rattle.proof_check.specs.Ties.Sound.{CallGives}
use Rattle.proof_check.proofs.WalkLaws.{AllTo}
use Rattle.proof_check.proofs.sound.call_is_shown.Given as goal

abbrev pub invariant-loop-pred : goal.invariant-loop-pred
invariant-loop-pred l = AllTo (CallGives l.plan l.letter l.from) l.preds l.pred-index
