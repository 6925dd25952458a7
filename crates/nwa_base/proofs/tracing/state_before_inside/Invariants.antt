use Rattle.std.proofs.Common.{◌≡◌, ℕ, drop}
use Rattle.nwa_base.specs.Members.{Member}
use Rattle.nwa_base.proofs.tracing.state_before_inside.Given as goal

abbrev pub invariant-loop-key : goal.invariant-loop-key
invariant-loop-key l =
    (x : ℕ × ℕ) × Member (drop l.key-index l.before) x × ((x.0 ≡ l.here.0) × Member l.nwa.insides (x.1, l.letter, l.here.1))
