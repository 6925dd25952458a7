use Rattle.std.proofs.Common.{length}
use Rattle.proof_form.proofs.CoarseLaws.{IsFront}
use Rattle.proof_form.proofs.texts.coarse_front.Given as goal

abbrev pub invariant-loop-letters : goal.invariant-loop-letters
invariant-loop-letters l = IsFront l.text l.letters.items l.rest

abbrev pub decreases-loop-letters : goal.decreases-loop-letters
decreases-loop-letters l = length l.rest
