use Rattle.std.proofs.Common.{◌≡◌, ◌∙◌, ℕ, ℤ, List, pos, ◌++◌, ap, sym, subst}
use Rattle.std.specs.Prelude.{IfOk}
use Rattle.math_facts.specs.Terms.{opposite}
use Rattle.lin_rows.specs.declared.types.RowKind.TheVariants.{Eq}
use Rattle.lin_rows.specs.Sums.{row_of, SumsFit}
use Rattle.rank_lasso.specs.RankingSystem.RankingSystem.{weighted, across, standing_at, first_coefficient}
use Rattle.rank_lasso.proofs.RankingSystem.MakingLaws.{falls_given}
use Rattle.rank_lasso.proofs.RankingSystem.SystemFits.{falls_sums}
use Rattle.rank_lasso.proofs.ranking_system.system.falls_at.Goals as goal
use Rattle.rank_lasso.proofs.ranking_system.system.falls_at.Goals.{After-deref}

given : (c : After-deref) → c.deref.result.now ≡ weighted 0 (across c.args.column c.args.rows.now) ++
    (standing_at (first_coefficient c.args.rows.now) c.args.column c.args.before.now ++ opposite (standing_at (first_coefficient c.args.rows.now) c.args.column c.args.after.now))
given c =
    c.deref.ensures.value ∙
    falls_given c.args.rows.now c.args.before.now c.args.after.now c.args.column c.add_across.new.given.items c.add_standing.new.given.items c.add_standing-2.new.given.items
    (c.in_ok-add_across.ensures ∙ ap (λ (v : List (ℕ × ℤ)). v ++ weighted 0 (across c.args.column c.args.rows.now)) c.new-given.ensures.items)
    c.in_ok-add_standing.ensures c.in_ok-add_standing-2.ensures

pub fitting_row-requires : goal.fitting_row-requires
fitting_row-requires c =
    subst (λ (v : List (ℕ × ℤ)). SumsFit v (pos 0)) (sym (given c)) (falls_sums c.args.rows.now c.args.before.now c.args.after.now c.args.column c.requires.valid)

pub returns : goal.returns
returns c =
    subst (λ (v : List (ℕ × ℤ)). IfOk c.fitting_row.result (λ r. r ≡ row_of v Eq (pos 0))) (given (goal.at.returns c).After-deref) c.fitting_row.ensures.value
