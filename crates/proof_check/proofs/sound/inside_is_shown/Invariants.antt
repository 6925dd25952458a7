use Rattle.proof_check.specs.Ties.Sound.{InsideGives}
use Rattle.proof_check.proofs.WalkLaws.{AllTo}
use Rattle.proof_check.proofs.sound.inside_is_shown.Given as goal

abbrev pub invariant-loop-pred : goal.invariant-loop-pred
invariant-loop-pred l = AllTo (InsideGives l.plan l.letter l.from) l.preds l.pred-index
