use Rattle.std.proofs.Common.{◌≡◌, ◌↔◌, ℕ, true, take}
use Rattle.std.specs.Int.{◌∣◌}
use Rattle.lin_rows.specs.Tightening.{all_divisible}
use Rattle.rank_lasso.proofs.ranking_system.points.divisor.Given as goal

abbrev pub invariant-loop-term : goal.invariant-loop-term
invariant-loop-term l = (d : ℕ) → (d ∣ l.shared) ↔ (all_divisible d (take l.term-index l.terms) ≡ true)
