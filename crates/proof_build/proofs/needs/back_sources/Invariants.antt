use Rattle.std.proofs.Common.{ℕ, take}
use Rattle.nwa_base.specs.Members.{Member}
use Rattle.proof_build.specs.Ties.Needs.{IsAmong}
use Rattle.proof_build.proofs.needs.back_sources.Given as goal

abbrev pub invariant-loop-exit : goal.invariant-loop-exit
invariant-loop-exit l = (q : ℕ) → Member (take l.exit-index l.exits) q → (p : ℕ) → Member l.union.backs (q, p, l.letter, l.target) → IsAmong l.before p → ⊥
