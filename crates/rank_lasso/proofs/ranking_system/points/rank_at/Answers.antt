use Rattle.std.proofs.Common.{◌≡◌, ◌∙◌, ℕ, ℤ, ◌+◌, ◌-◌, pos, List, ◌++◌, length, take, drop, sym, ap, subst, arith, rules, FitsSigned}
use Rattle.std.specs.Int.{w128}
use Rattle.std.specs.List.{AllByRecursion}
use Rattle.std.proofs.lemmas.Int.{to_z-of_z}
use Rattle.math_facts.specs.Fits.{Fits}
use Rattle.math_facts.specs.Terms.{opposite, IsBelow}
use Rattle.lin_rows.specs.Rows.{IsCoefficient}
use Rattle.lin_rows.specs.Sums.{summed, SumsFit}
use Rattle.lin_rows.specs.Points.{point_of}
use Rattle.rank_lasso.specs.LassoTurns.Made.{plain_turn}
use Rattle.rank_lasso.specs.LassoTurns.Claims.{IsFormOver, at_versions}
use Rattle.rank_lasso.specs.RankingSystem.RankingSystem.{weighted, values_from}
use Rattle.rank_lasso.proofs.RankingSystem.TakenLaws.{values_are}
use Rattle.rank_lasso.proofs.RankingSystem.RankAtLaws.{are_coefficients, is_form, fall_sums, all_fit_behind, all_fit_before, part_is, values_long, no_bound, rank_parts}
use Rattle.rank_lasso.proofs.ranking_system.points.rank_at.Goals as goal
use Rattle.rank_lasso.proofs.ranking_system.points.rank_at.Goals.{Start}

-- the parts of the numbers: the multipliers for the fall, those for the bound, and the coefficients
second_of : Start → List ℤ
second_of c = let n : ℕ = length c.args.tight.now in take ((n + n) - n) (drop n c.args.numerators.now)

rest_of : Start → List ℤ
rest_of c = let n : ℕ = length c.args.tight.now in let xs : List ℤ = c.args.numerators.now in take (length xs - (n + n)) (drop (n + n) xs)

first_is : (c : Start) → take (length c.args.tight.now) c.args.numerators.now ≡ values_from (point_of c.args.numerators.now) 0 (length c.args.tight.now)
first_is c = let e = c.requires.counted in sym (values_are c.args.numerators.now 0 (length c.args.tight.now) (omega (arith, e)))

second_is : (c : Start) → second_of c ≡ values_from (point_of c.args.numerators.now) (length c.args.tight.now) (length c.args.tight.now)
unfolding second_of
second_is c =
    let e = c.requires.counted in
    let n : ℕ = length c.args.tight.now in
    part_is c.args.numerators.now n (n + n) n (omega arith) (omega (arith, e))

rest_is : (c : Start) → rest_of c ≡ values_from (point_of c.args.numerators.now) (length c.args.tight.now + length c.args.tight.now) c.args.turn.now.width
unfolding rest_of
rest_is c =
    let n : ℕ = length c.args.tight.now in
    part_is c.args.numerators.now (n + n) (length c.args.numerators.now) c.args.turn.now.width c.requires.counted (omega arith)

rest_fits : (c : Start) → AllByRecursion Fits (rest_of c)
unfolding rest_of
rest_fits c =
    let n : ℕ = length c.args.tight.now in
    all_fit_before (length c.args.numerators.now - (n + n)) (drop (n + n) c.args.numerators.now) (all_fit_behind (n + n) c.args.numerators.now c.requires.fits)

form : (c : Start) (ts : List (ℕ × ℤ)) → ts ≡ summed (weighted 0 (rest_of c)) → IsFormOver c.args.turn.now.width ts
form c ts e =
    subst (IsFormOver c.args.turn.now.width) (sym e)
    (is_form c.args.turn.now.width (rest_of c) (ap length (rest_is c) ∙ values_long (point_of c.args.numerators.now) _ c.args.turn.now.width) (rest_fits c))

pub returns-in_default-clause-past : goal.returns-in_default-clause-past
unfolding second_of
returns-in_default-clause-past c = λ e h.
    (let s = (goal.at.returns-in_default-clause-past c).Start in
    no_bound (plain_turn c.args.turn.now) c.args.tight.now (point_of c.args.numerators.now) (second_of s) (second_is s) (rw c.in_default.is at c.in_ok-bound.ensures.value) h)

pub fall_divisor-requires-clause-within : goal.fall_divisor-requires-clause-within
unfolding rest_of
fall_divisor-requires-clause-within c =
    let f = form (goal.at.fall_divisor-requires-clause-within c).Start c.in_ok-terms.terms.items c.in_ok-terms.ensures in
    subst (λ (k : ℕ). IsBelow k c.deref-2.result.now) (sym (ap length c.deref.ensures.value ∙ c.requires.ranked.long))
    (subst (IsBelow c.args.turn.now.width) (sym c.deref-2.ensures.value) f.within)

pub fall_divisor-requires-clause-fits : goal.fall_divisor-requires-clause-fits
unfolding rest_of
fall_divisor-requires-clause-fits c =
    let f = form (goal.at.fall_divisor-requires-clause-fits c).Start c.in_ok-terms.terms.items c.in_ok-terms.ensures in
    let P : List ℕ → List (ℕ × ℤ) → Type 0 = λ here ts. SumsFit (ts ++ opposite (at_versions here ts)) (pos 0) in
    subst (λ (here : List ℕ). P here c.deref-2.result.now) (sym c.deref.ensures.value)
    (subst (P c.args.turn.now.here.items) (sym c.deref-2.ensures.value) (fall_sums c.args.turn.now c.in_ok-terms.terms.items c.requires.ranked f))

pub divisor-requires : goal.divisor-requires
unfolding rest_of
divisor-requires c =
    let s = (goal.at.divisor-requires c).Start in
    subst (AllByRecursion IsCoefficient) (sym (c.deref-3.ensures.value ∙ c.in_ok-terms.ensures)) (are_coefficients (rest_of s) (rest_fits s))

pub returns-clause-value : goal.returns-clause-value
unfolding second_of rest_of
returns-clause-value c =
    let s = (goal.at.returns-clause-value c).Start in
    let i = form s c.in_ok-terms.terms.items c.in_ok-terms.ensures in
    let f : FitsSigned w128 c.in-Some.bound = search rules in
    let g : FitsSigned w128 c.in_ok-fall.fall = search rules in
    let h : FitsSigned w128 c.divisor.result = search rules in
    let b = rw c.in-Some.is at c.in_ok-bound.ensures.value in
    let z = rw c.in-Some.is at c.in_ok-bound.ensures.fits in
    let k = rank_parts c.args.turn.now c.args.tight.now (point_of c.args.numerators.now) c.in_ok-terms.terms.items c.in-Some.bound c.in_ok-falls.falls c.in_ok-bounded.bounded
    (take (length c.args.tight.now) c.args.numerators.now) (second_of s) (rest_of s) (first_is s) (second_is s) (rest_is s) c.in_ok-terms.ensures i
    c.deref.result.now c.deref-2.result.now c.deref-3.result.now c.in_ok-fall.fall c.divisor.result c.deref.ensures.value c.deref-2.ensures.value c.deref-3.ensures.value
    c.in_ok-fall.ensures c.divisor.ensures b.1 (simp to_z-of_z at c.in_ok-falls.ensures) (simp to_z-of_z at c.in_ok-bounded.ensures) in
    record { terms = k.terms_are; bound = simp to_z-of_z k.bound_is; falls = k.falls_is; bounded = k.bounded_is; form = i; bound_fits = simp to_z-of_z z }
