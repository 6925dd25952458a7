use Rattle.std.proofs.Common.{ℕ, take}
use Rattle.nwa_base.specs.Members.{Member}
use Rattle.proof_build.specs.ProofUnwind.Exploring.{GoesOn}
use Rattle.proof_build.specs.ProofUnwind.Ties.Searches.{stage_of, exits_of}
use Rattle.proof_build.proofs.ProofUnwind.LoopLaws.{Followed}
use Rattle.proof_build.proofs.ProofUnwind.StageLaws.{Joined}
use Rattle.proof_build.proofs.proof_unwind.joining.join_before.Given as goal

abbrev pub invariant-loop-call : goal.invariant-loop-call
invariant-loop-call l =
    Followed (GoesOn l.graph l.union) (λ s e. (x : ℕ) → Member (exits_of l.exits e.2) x → Joined l.graph s x l.before e.1) (stage_of l.initial.search) (stage_of l.search)
    (take l.call-index l.call-items)
