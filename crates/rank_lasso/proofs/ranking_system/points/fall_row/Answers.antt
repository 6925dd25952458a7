use Rattle.std.proofs.Common.{◌≡◌, ◌∙◌, ℕ, ℤ, List, ◌++◌, ◌-ℤ◌, pos, length, get_or, FitsSigned, refl, sym, subst, rules}
use Rattle.std.specs.Prelude.{IfOk}
use Rattle.std.specs.Int.{w128}
use Rattle.std.proofs.lemmas.Int.{to_z-of_z}
use Rattle.math_facts.specs.Terms.{opposite}
use Rattle.lin_rows.specs.declared.types.RowKind.TheVariants.{Le}
use Rattle.lin_rows.specs.Sums.{row_of, SumsFit}
use Rattle.lin_rows.proofs.PointLemmas.{IsBelow_at}
use Rattle.rank_lasso.specs.LassoTurns.Claims.{at_versions}
use Rattle.rank_lasso.proofs.RankingSystem.TakenLaws.{falls_next, falls_end, fits_at, negated_is_kept}
use Rattle.rank_lasso.proofs.ranking_system.points.fall_row.Goals as goal
use Rattle.rank_lasso.proofs.ranking_system.points.fall_row.Goals.{After-deref}

pub bounds-after-column : goal.bounds-after-column
bounds-after-column c = IsBelow_at (length c.args.after.now) c.args.terms.now c.loop-column.column-index (0, pos 0) c.loop-column-test.true c.requires.within

pub loop-column-preserved : goal.loop-column-preserved
loop-column-preserved c =
    let f : FitsSigned w128 (get_or c.args.terms.now c.loop-column.column-index (0, pos 0)).1 = search rules in
    let g : FitsSigned w128 (pos 0 -ℤ (get_or c.args.terms.now c.loop-column.column-index (0, pos 0)).1) = negated_is_kept (get_or c.args.terms.now c.loop-column.column-index (0, pos 0)).1
    (fits_at c.args.terms.now (opposite (at_versions c.args.after.now c.args.terms.now)) c.loop-column.column-index (0, pos 0) c.requires.fits.each c.loop-column-test.true) in
    falls_next c.args.after.now c.args.terms.now c.loop-column.column-index c.loop-column.given.items c.push.new.self.items
    (c.args.terms.now ++ opposite (at_versions c.args.after.now c.args.terms.now)) _ _ c.loop-column-test.true c.loop-column.invariant
    (simp to_z-of_z at c.in_ok-push.ensures.items) refl refl

given : (c : After-deref) → c.deref.result.now ≡ c.args.terms.now ++ opposite (at_versions c.args.after.now c.args.terms.now)
given c =
    c.deref.ensures.value ∙
    falls_end c.args.after.now c.args.terms.now c.loop-column.column-index c.loop-column.given.items (c.args.terms.now ++ opposite (at_versions c.args.after.now c.args.terms.now))
    c.loop-column-test.false c.loop-column.invariant

pub fitting_row-requires : goal.fitting_row-requires
fitting_row-requires c = subst (λ (v : List (ℕ × ℤ)). SumsFit v (pos 0)) (sym (given c)) c.requires.fits

pub returns : goal.returns
returns c =
    subst (λ (v : List (ℕ × ℤ)). IfOk c.fitting_row.result (λ r. r ≡ row_of v Le (pos 0))) (given (goal.at.returns c).After-deref) c.fitting_row.ensures.value
