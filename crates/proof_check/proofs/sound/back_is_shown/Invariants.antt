use Rattle.proof_check.specs.Ties.Sound.{BackGives}
use Rattle.proof_check.proofs.WalkLaws.{AllTo}
use Rattle.proof_check.proofs.sound.back_is_shown.Given as goal

abbrev pub invariant-loop-pred : goal.invariant-loop-pred
invariant-loop-pred l = AllTo (BackGives l.plan l.letter l.exit l.before) l.preds l.pred-index
