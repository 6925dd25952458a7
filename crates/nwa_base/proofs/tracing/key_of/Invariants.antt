use Rattle.std.proofs.Common.{◌≡◌, ℕ, drop}
use Rattle.nwa_base.specs.Members.{Member}
use Rattle.nwa_base.proofs.tracing.key_of.Given as goal

abbrev pub invariant-loop-key : goal.invariant-loop-key
invariant-loop-key l = (x : ℕ × ℕ) × Member (drop l.key-index l.set) x × (x.1 ≡ l.p)
