use Rattle.std.proofs.Common.{ℕ, drop}
use Rattle.nwa_base.specs.Members.{Member}
use Rattle.nwa_base.proofs.tracing.pair_before_back.Given as goal

abbrev pub invariant-loop-p : goal.invariant-loop-p
invariant-loop-p l =
    (x : ℕ × ℕ) × Member (drop l.p-index l.before) x × (Member l.outer (l.here.0, x.0) × Member l.nwa.backs (x.1, x.0, l.letter, l.here.1))
