use Rattle.std.proofs.Common.{◌≡◌, take}
use Rattle.proof_build.specs.ProofUnwind.Unwindings.{HasBack}
use Rattle.proof_build.specs.ProofUnwind.Exploring.{GoesOn}
use Rattle.proof_build.specs.ProofUnwind.Ties.Searches.{stage_of}
use Rattle.proof_build.proofs.ProofUnwind.LoopLaws.{Followed}
use Rattle.proof_build.proofs.proof_unwind.joining.join.Given as goal

abbrev pub invariant-loop-letter : goal.invariant-loop-letter
invariant-loop-letter l =
    Followed (GoesOn l.graph l.union) (λ s e. e.2.call ≡ l.call.id → HasBack s.steps.backs s.nodes l.exit l.before e.2 e.3) (stage_of l.initial.search) (stage_of l.search)
    (take l.letter-index l.letter-items)
