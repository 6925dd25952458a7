use Rattle.std.proofs.Common.{take}
use Rattle.proof_build.specs.ProofUnwind.Unwindings.{HasStep}
use Rattle.proof_build.specs.ProofUnwind.Exploring.{GoesOn}
use Rattle.proof_build.specs.ProofUnwind.Ties.Searches.{stage_of}
use Rattle.proof_build.proofs.ProofUnwind.LoopLaws.{Followed}
use Rattle.proof_build.proofs.proof_unwind.opening.inside_steps.Given as goal

abbrev pub invariant-loop-letter : goal.invariant-loop-letter
invariant-loop-letter l =
    Followed (GoesOn l.graph l.union) (λ s e. HasStep s.steps.insides s.nodes l.from e.1 e.2) (stage_of l.initial.search) (stage_of l.search) (take l.letter-index l.letter-items)
