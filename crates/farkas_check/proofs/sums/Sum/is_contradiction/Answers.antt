use Rattle.std.proofs.Common.{◌≡◌, ℕ, ℤ, pos, List, length, nat_eq, ap, sym, ◌∙◌, subst}
use Rattle.std.specs.Map.{lookup}
use Rattle.std.proofs.lemmas.Bool.{false≢true}
use Rattle.math_facts.specs.Optional.{or_zero}
use Rattle.farkas_check.specs.Ties.Leaves.{PartSum}
use Rattle.farkas_check.proofs.SumLaws.{none_kept}
use Rattle.farkas_check.proofs.sums.Sum.is_contradiction.Goals as goal

pub returns-else-is_empty : goal.returns-else-is_empty
returns-else-is_empty c = (
  λ e. absurd (false≢true (sym c.if-is_empty.false ∙ e)),
  λ n.
      let k : c.args.self.now.kept ≡ c.self.inside.columns.entries = sym (ap (λ (s : PartSum). s.kept) c.self.view_is) in
      c.is_empty.ensures.1 (ap (λ (ts : List (ℕ × ℤ)). length ts)
      (none_kept c.self.inside.columns.entries c.self.invariant (λ q. subst (λ (ts : List (ℕ × ℤ)). or_zero (lookup (nat_eq q) ts) ≡ pos 0) k (n.columns_vanish q)))),
)
