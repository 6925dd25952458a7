use Rattle.std.proofs.Common.{rules, ◌≡◌, ◌∙◌, ℤ, pos, to_z, FitsSigned, ap, sym, subst}
use Rattle.std.specs.Prelude.{unsigned_abs}
use Rattle.std.specs.Int.{w128, IsGcd}
use Rattle.std.proofs.lemmas.Int.{to_z-of_z}
use Rattle.frac.specs.Ties.Reduced.{Reduces}
use Rattle.frac.proofs.Reducing.{reduced_by_one}
use Rattle.frac.proofs.numbers.reduce.Goals as goal
use Rattle.frac.proofs.numbers.reduce.Goals.{After-common_divisor-divisor}

divisor_of : (c : After-common_divisor-divisor) → IsGcd (unsigned_abs c.args.a) (unsigned_abs c.args.b) (unsigned_abs c.common_divisor-divisor.result)
divisor_of c =
    let f : FitsSigned w128 c.args.a = c.ranges.a in
    let g : FitsSigned w128 c.args.b = c.ranges.b in
    simp to_z-of_z at c.common_divisor-divisor.ensures.divisor

pub quotient-requires-clause-divides : goal.quotient-requires-clause-divides
quotient-requires-clause-divides c =
    let f : FitsSigned w128 c.args.a = c.ranges.a in
    let g : FitsSigned w128 c.common_divisor-divisor.result = search rules in
    simp to_z-of_z (divisor_of (goal.at.quotient-requires-clause-divides c).After-common_divisor-divisor).0

pub quotient-requires-2-clause-divides : goal.quotient-requires-2-clause-divides
quotient-requires-2-clause-divides c =
    let f : FitsSigned w128 c.args.b = c.ranges.b in
    let g : FitsSigned w128 c.common_divisor-divisor.result = search rules in
    simp to_z-of_z (divisor_of (goal.at.quotient-requires-2-clause-divides c).After-common_divisor-divisor).1

pub returns : goal.returns
returns c =
    let f : FitsSigned w128 c.args.a = c.ranges.a in
    let g : FitsSigned w128 c.args.b = c.ranges.b in
    let d : FitsSigned w128 c.common_divisor-divisor.result = search rules in
    let p : FitsSigned w128 c.quotient.result = search rules in
    let q : FitsSigned w128 c.quotient-2.result = search rules in
    simp to_z-of_z (record {
      positive = c.common_divisor-divisor.ensures.positive;
      divisor = divisor_of (goal.at.returns c).After-common_divisor-divisor;
      first = simp to_z-of_z at c.quotient.ensures.exact;
      second = simp to_z-of_z at c.quotient-2.ensures.exact;
    })

pub returns-then-b-eq1 : goal.returns-then-b-eq1
returns-then-b-eq1 c =
    let f : FitsSigned w128 c.args.a = c.ranges.a in
    let g : FitsSigned w128 c.args.b = c.ranges.b in
    let one : c.args.b ≡ pos 1 = sym (to_z-of_z w128 c.args.b g) ∙ ap (to_z w128) c.if-b-eq1.true in
    simp to_z-of_z (subst (λ (z : ℤ). Reduces c.args.a z (pos 1) c.args.a (pos 1)) (sym one) (reduced_by_one c.args.a))
