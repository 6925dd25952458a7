use Rattle.std.proofs.Common.{◌≡◌, ◌++◌, ℕ, drop, eqb}
use Rattle.std.specs.HashMap.{get}
use Rattle.nwa_base.specs.Groups.{grouped}
use Rattle.nwa_base.specs.Ties.Reading.{seconds}
use Rattle.nwa_base.proofs.pairs.grouped.Given as goal

abbrev pub invariant-loop-p : goal.invariant-loop-p
invariant-loop-p l = (p : ℕ) → grouped (get eqb l.groups.by_key p) ++ seconds p (drop l.p-index l.pairs) ≡ seconds p l.pairs
