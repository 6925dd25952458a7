use Rattle.std.proofs.Common.{◌≡◌, ◌∙◌, ℤ, List, pos, ◌-ℤ◌, map, FitsSigned, sym, ap, subst, rules}
use Rattle.std.specs.Int.{w128}
use Rattle.std.proofs.lemmas.Int.{to_z-of_z}
use Rattle.std.proofs.lemmas.List.{length-map}
use Rattle.math_facts.specs.Fits.{Fits}
use Rattle.math_facts.specs.Terms.{dot}
use Rattle.lin_rows.specs.Points.{point_of, DotFits, HasSum}
use Rattle.rank_lasso.specs.RankingSystem.RankingSystem.{weighted}
use Rattle.rank_lasso.proofs.RankingSystem.TakenLaws.{sum_fits, negated_fits, negated_is_kept, negated_is, has_sum}
use Rattle.rank_lasso.proofs.ranking_system.points.bound_of.Goals as goal
use Rattle.rank_lasso.proofs.ranking_system.points.bound_of.Goals.{In-Some, After-sum_at}

given : (c : After-sum_at) → c.deref.result.now ≡ weighted 0 (map (λ r. r.bound) c.args.tight.now)
given c = c.deref.ensures.value ∙ c.in_ok-bounds.ensures

fits : (c : In-Some) → Fits c.in-Some.sum
fits c = sum_fits c.args.multipliers.now c.deref.result.now c.in-Some.sum c.in-Some.ensures.0 c.in-Some.ensures.1

pub overflow_sub-result : goal.overflow_sub-result
overflow_sub-result c =
    let f : FitsSigned w128 c.in-Some.sum = search rules in
    simp to_z-of_z (negated_is_kept c.in-Some.sum (fits c))

pub returns-in-Some-clause-value : goal.returns-in-Some-clause-value
returns-in-Some-clause-value c =
    let s = (goal.at.returns-in-Some-clause-value c).In-Some in
    let e = given (goal.at.returns-in-Some-clause-value c).After-sum_at in
    let f : FitsSigned w128 c.in-Some.sum = search rules in
    let g : FitsSigned w128 (pos 0 -ℤ c.in-Some.sum) = negated_is_kept c.in-Some.sum (fits s) in (
      subst (DotFits (point_of c.args.multipliers.now) (pos 0)) e c.in-Some.ensures.0.fits,
      simp to_z-of_z (negated_is c.in-Some.sum _ (c.in-Some.ensures.1 ∙ ap (dot (point_of c.args.multipliers.now)) e)),
    )

pub returns-in-Some-clause-fits : goal.returns-in-Some-clause-fits
returns-in-Some-clause-fits c =
    let s = (goal.at.returns-in-Some-clause-fits c).In-Some in
    let f : FitsSigned w128 c.in-Some.sum = search rules in
    let g : FitsSigned w128 (pos 0 -ℤ c.in-Some.sum) = negated_is_kept c.in-Some.sum (fits s) in
    simp to_z-of_z (negated_fits c.in-Some.sum (fits s))

pub returns-clause-value : goal.returns-clause-value
returns-clause-value c = λ h.
    (let e = given (goal.at.returns-clause-value c).After-sum_at in
    let bs : List ℤ = map (λ r. r.bound) c.args.tight.now in
    c.in-None.ensures (subst (HasSum c.args.multipliers.now) (sym e) (has_sum c.args.multipliers.now bs (c.requires.counted ∙ sym (length-map c.args.tight.now (λ r. r.bound))) h)))
