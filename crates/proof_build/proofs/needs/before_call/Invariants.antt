use Rattle.std.proofs.Common.{ℕ, take}
use Rattle.nwa_base.specs.Members.{Member}
use Rattle.proof_build.proofs.needs.before_call.Given as goal

abbrev pub invariant-loop-source : goal.invariant-loop-source
invariant-loop-source l = (p : ℕ) → Member (take l.source-index l.before) p → Member l.union.backs (l.exit, p, l.letter, l.target) → ⊥
