use Rattle.std.proofs.Common.{to_z, of_z, ◌≡◌, ◌*ℤ◌, ◌∙◌, ap, ℤ}
use Rattle.std.specs.Prelude.{int_div}
use Rattle.std.specs.Int.{w128}
use Rattle.std.proofs.lemmas.Int.{quot_is, quot_fits}
use Rattle.frac.proofs.Reducing.{exact_quotient}
use Rattle.frac.proofs.numbers.quotient.Goals as goal
use Rattle.frac.proofs.numbers.quotient.Goals.{Else-divisor-eq1}

-- what the code's division gives
division_of : (c : Else-divisor-eq1) → to_z w128 (of_z w128 (int_div (to_z w128 (of_z w128 c.args.a)) (to_z w128 (of_z w128 c.args.divisor)))) ≡ int_div c.args.a c.args.divisor
division_of c = quot_is w128 c.args.a c.args.divisor c.ranges.a c.ranges.divisor (quot_fits w128 c.args.a c.args.divisor c.ranges.a c.requires.positive)

pub returns-else-divisor-eq1-clause-value : goal.returns-else-divisor-eq1-clause-value
returns-else-divisor-eq1-clause-value c = division_of c ∙ (exact_quotient c.args.a c.args.divisor c.requires.positive c.requires.divides).0

pub returns-else-divisor-eq1-clause-exact : goal.returns-else-divisor-eq1-clause-exact
returns-else-divisor-eq1-clause-exact c =
    let e = exact_quotient c.args.a c.args.divisor c.requires.positive c.requires.divides in
    ap (λ (z : ℤ). c.args.divisor *ℤ z) (division_of c ∙ e.0) ∙ e.1
