use Rattle.std.proofs.Common.{take}
use Rattle.proof_build.specs.ProofUnwind.Exploring.{GoesOn}
use Rattle.proof_build.specs.ProofUnwind.Ties.Searches.{stage_of}
use Rattle.proof_build.proofs.ProofUnwind.LoopLaws.{Followed}
use Rattle.proof_build.proofs.ProofUnwind.StageLaws.{Joined}
use Rattle.proof_build.proofs.proof_unwind.joining.join_exit.Given as goal

abbrev pub invariant-loop-before : goal.invariant-loop-before
invariant-loop-before l =
    Followed (GoesOn l.graph l.union) (λ s e. Joined l.graph s l.exit e.0 e.1) (stage_of l.initial.search) (stage_of l.search) (take l.before-index l.before-items)
