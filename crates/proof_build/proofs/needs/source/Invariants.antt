use Rattle.std.proofs.Common.{ℕ, cond, take}
use Rattle.nwa_base.specs.Members.{Member}
use Rattle.proof_build.proofs.needs.source.Given as goal

abbrev pub invariant-loop-source : goal.invariant-loop-source
invariant-loop-source l = (q : ℕ) → Member (take l.source-index l.before) q → Member (cond l.is_call l.union.calls l.union.insides) (q, l.letter, l.target) → ⊥
