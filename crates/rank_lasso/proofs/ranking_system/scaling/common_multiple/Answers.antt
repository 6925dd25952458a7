use Rattle.std.proofs.Common.{◌∙◌, ℕ, ℤ, pos, ap, subst, ◌^◌, ◌<◌, ◌≤◌, FitsSigned, arith, rules}
use Rattle.std.specs.Prelude.{unsigned_abs, SomeIff}
use Rattle.std.specs.Int.{w128, IsGcd}
use Rattle.std.proofs.lemmas.Int.{to_z-of_z, to_z_pos, ints}
use Rattle.math_facts.specs.Fits.{Fits}
use Rattle.frac.proofs.Reducing.{positive_nonzero, positive_below, positive_gcd, gcd_at_most}
use Rattle.fm_elim.proofs.FractionLaws.{only_common}
use Rattle.rank_lasso.proofs.RankingSystem.PointLaws.{multiple_is}
use Rattle.rank_lasso.proofs.ranking_system.scaling.common_multiple.Goals as goal
use Rattle.rank_lasso.proofs.ranking_system.scaling.common_multiple.Goals.{After-greatest_divisor-shared}

divisor_of : (c : After-greatest_divisor-shared) → IsGcd (unsigned_abs c.args.a) (unsigned_abs c.args.b) c.greatest_divisor-shared.result
divisor_of c =
    let f : FitsSigned w128 c.args.a = c.ranges.a in
    let g : FitsSigned w128 c.args.b = c.ranges.b in
    rw (simp to_z-of_z at c.unsigned_abs.ensures.value, simp to_z-of_z at c.unsigned_abs-2.ensures.value) at c.greatest_divisor-shared.ensures

below_of : (c : After-greatest_divisor-shared) → c.greatest_divisor-shared.result < 2 ^ 127
below_of c =
    let b : ℕ = unsigned_abs c.args.b in
    let l : b < 2 ^ 127 = positive_below c.args.b c.requires.second c.ranges.b in
    let m : c.greatest_divisor-shared.result ≤ b = gcd_at_most (unsigned_abs c.args.a) b c.greatest_divisor-shared.result (positive_nonzero c.args.b c.requires.second) (divisor_of c) in
    omega arith

pub overflow_cast-shared : goal.overflow_cast-shared
overflow_cast-shared c = record { sfits = below_of c }

pub quotient-requires-clause-second : goal.quotient-requires-clause-second
quotient-requires-clause-second c =
    let l : 0 < c.greatest_divisor-shared.result =
    positive_gcd (unsigned_abs c.args.a) (unsigned_abs c.args.b) c.greatest_divisor-shared.result (positive_nonzero c.args.b c.requires.second) (divisor_of c) in
    rw (to_z_pos w128 c.greatest_divisor-shared.result (below_of c)) (omega (arith, ints))

pub returns : goal.returns
returns c =
    let f : FitsSigned w128 c.args.a = c.ranges.a in
    let g : FitsSigned w128 c.args.b = c.ranges.b in
    let h : FitsSigned w128 c.quotient.result = search rules in
    let s = (goal.at.returns c).After-greatest_divisor-shared in
    subst (λ (z : ℤ). SomeIff c.product.result (Fits z) z)
    (multiple_is c.args.a c.args.b _ c.quotient.result c.requires.second
    (to_z_pos w128 c.greatest_divisor-shared.result (below_of s) ∙
    ap pos (only_common (unsigned_abs c.args.a) (unsigned_abs c.args.b) c.greatest_divisor-shared.result (divisor_of s)))
    (simp to_z-of_z at c.quotient.ensures)) (simp to_z-of_z at c.product.ensures)
