use Rattle.std.proofs.Common.{ℕ, ◌<◌}
use Rattle.nwa_base.specs.Members.{Member}
use Rattle.nwa_difference.proofs.returning.returns_from_each.Given as goal

abbrev pub invariant-loop-before : goal.invariant-loop-before
invariant-loop-before l =
    (k j : ℕ) → k < l.before → Member l.second.calls (k, l.call, j) → Member l.second.backs (l.state, k, l.letter, l.end)
