use Rattle.std.proofs.Common.{take}
use Rattle.proof_build.specs.ProofUnwind.Exploring.{GoesOn}
use Rattle.proof_build.specs.ProofUnwind.Ties.Searches.{stage_of}
use Rattle.proof_build.proofs.ProofUnwind.LoopLaws.{Followed}
use Rattle.proof_build.proofs.ProofUnwind.StageLaws.{Joined}
use Rattle.proof_build.proofs.proof_unwind.joining.join_call.Given as goal

abbrev pub invariant-loop-exit : goal.invariant-loop-exit
invariant-loop-exit l =
    Followed (GoesOn l.graph l.union) (λ s x. Joined l.graph s x l.before l.call) (stage_of l.initial.search) (stage_of l.search) (take l.exit-index l.exit-items)
