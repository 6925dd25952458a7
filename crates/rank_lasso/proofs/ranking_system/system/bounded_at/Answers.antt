use Rattle.std.proofs.Common.{◌∙◌, ℕ, ℤ, List, pos, ◌++◌, length, ap, sym, subst}
use Rattle.lin_rows.specs.Sums.{SumsFit}
use Rattle.rank_lasso.specs.RankingSystem.RankingSystem.{weighted, across, standing_at, first_coefficient}
use Rattle.rank_lasso.proofs.RankingSystem.SystemFits.{bounded_sums}
use Rattle.rank_lasso.proofs.ranking_system.system.bounded_at.Goals as goal

pub fitting_row-requires : goal.fitting_row-requires
fitting_row-requires c =
    let rows = c.args.rows.now in
    let a : List (ℕ × ℤ) = weighted (length rows) (across c.args.column rows) in
    let x : List (ℕ × ℤ) = standing_at (first_coefficient rows) c.args.column c.args.before.now in
    subst (λ (v : List (ℕ × ℤ)). SumsFit v (pos 0))
    (sym (c.deref.ensures.value ∙ c.in_ok-add_standing.ensures ∙
    ap (λ (v : List (ℕ × ℤ)). v ++ x) (c.in_ok-add_across.ensures ∙ ap (λ (v : List (ℕ × ℤ)). v ++ a) c.new-given.ensures.items)))
    (bounded_sums rows c.args.before.now c.args.column c.requires.valid)
