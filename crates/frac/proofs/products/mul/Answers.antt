use Rattle.std.proofs.Common.{rules, ◌≡◌, ◌*ℤ◌, FitsSigned, sym, subst, ◌∙◌}
use Rattle.std.specs.Int.{w128}
use Rattle.std.proofs.lemmas.Int.{to_z-of_z}
use Rattle.math_facts.specs.Fits.{Fits}
use Rattle.frac.specs.Fractions.{Fraction, IsFraction, IsRatio, IsTooLarge}
use Rattle.frac.specs.Ties.Reduced.{Reduces}
use Rattle.frac.proofs.ProductLaws.{left_over, product_ratio, product_is_fraction, product_too_large}
use Rattle.frac.proofs.Exits.{on_err}
use Rattle.frac.proofs.products.mul.Goals as goal
use Rattle.frac.proofs.products.mul.Goals.{After-reduce-right, In_ok-denominator}

left_of : (c : After-reduce-right) → Reduces c.args.a.now.num c.args.b.now.den c.reduce-left.result.divisor c.reduce-left.result.first c.reduce-left.result.second
left_of c =
    let f : FitsSigned w128 c.parts-first.result.0 = search rules in
    let g : FitsSigned w128 c.parts-second.result.1 = search rules in
    rw (c.parts-first.ensures.numerator, c.parts-second.ensures.denominator) at (simp to_z-of_z at c.reduce-left.ensures)

right_of : (c : After-reduce-right) → Reduces c.args.b.now.num c.args.a.now.den c.reduce-right.result.divisor c.reduce-right.result.first c.reduce-right.result.second
right_of c =
    let f : FitsSigned w128 c.parts-second.result.0 = search rules in
    let g : FitsSigned w128 c.parts-first.result.1 = search rules in
    rw (c.parts-second.ensures.numerator, c.parts-first.ensures.denominator) at (simp to_z-of_z at c.reduce-right.ensures)

-- what is left of both factors
abbrev product_of : After-reduce-right → Fraction
product_of c = left_over c.reduce-left.result.first c.reduce-right.result.first c.reduce-right.result.second c.reduce-left.result.second

too_large_of : (c : After-reduce-right) → ((Fits (product_of c).num × Fits (product_of c).den) → ⊥) →
    IsTooLarge (c.args.a.now.num *ℤ c.args.b.now.num) (c.args.a.now.den *ℤ c.args.b.now.den)
too_large_of c past =
    let l = c.reduce-left.result in
    let r = c.reduce-right.result in
    product_too_large c.args.a.now c.args.b.now l.divisor r.divisor l.first r.first r.second l.second c.parts-first.ensures.valid.lowest
    c.parts-second.ensures.valid.lowest (left_of c) (right_of c) past

pub returns-in_err-numerator-clause-past : goal.returns-in_err-numerator-clause-past
returns-in_err-numerator-clause-past c =
    let p = (goal.at.returns-in_err-numerator-clause-past c).After-reduce-right in
    let f : FitsSigned w128 c.reduce-left.result.first = search rules in
    let g : FitsSigned w128 c.reduce-right.result.first = search rules in
    on_err c.from_residual.result (too_large_of p (λ fits. (simp to_z-of_z at c.in_err-numerator.ensures) fits.0))

pub returns-in_err-denominator-clause-past : goal.returns-in_err-denominator-clause-past
returns-in_err-denominator-clause-past c =
    let p = (goal.at.returns-in_err-denominator-clause-past c).After-reduce-right in
    let f : FitsSigned w128 c.reduce-left.result.second = search rules in
    let g : FitsSigned w128 c.reduce-right.result.second = search rules in
    on_err c.from_residual-in_err-denominator.result (too_large_of p (λ fits. (simp to_z-of_z at c.in_err-denominator.ensures) fits.1))

-- what the calls of `times` gave
numerator_of : (c : In_ok-denominator) → Fits (product_of (goal.at.new-requires c).After-reduce-right).num × (c.in_ok-numerator.numerator ≡ (product_of (goal.at.new-requires c).After-reduce-right).num)
numerator_of c =
    let f : FitsSigned w128 c.reduce-left.result.first = search rules in
    let g : FitsSigned w128 c.reduce-right.result.first = search rules in
    simp to_z-of_z at c.in_ok-numerator.ensures

denominator_of : (c : In_ok-denominator) → Fits (product_of (goal.at.new-requires c).After-reduce-right).den × (c.in_ok-denominator.denominator ≡ (product_of (goal.at.new-requires c).After-reduce-right).den)
denominator_of c =
    let f : FitsSigned w128 c.reduce-left.result.second = search rules in
    let g : FitsSigned w128 c.reduce-right.result.second = search rules in
    simp to_z-of_z at c.in_ok-denominator.ensures

parts_of : (c : In_ok-denominator) →
    ◌≡◌ {A = Fraction} (record { num = c.in_ok-numerator.numerator; den = c.in_ok-denominator.denominator }) (product_of (goal.at.new-requires c).After-reduce-right)
parts_of c = λ i. record { num = (numerator_of c).1 i; den = (denominator_of c).1 i }

pub new-requires : goal.new-requires
new-requires c =
    let p = (goal.at.new-requires c).After-reduce-right in
    let l = c.reduce-left.result in
    let r = c.reduce-right.result in
    let f : FitsSigned w128 c.in_ok-numerator.numerator = search rules in
    let g : FitsSigned w128 c.in_ok-denominator.denominator = search rules in
    simp to_z-of_z (subst IsFraction (sym (parts_of c))
    (product_is_fraction c.args.a.now c.args.b.now l.divisor r.divisor l.first r.first r.second l.second c.parts-first.ensures.valid.lowest
    c.parts-second.ensures.valid.lowest (left_of p) (right_of p) (numerator_of c).0 (denominator_of c).0))

pub returns-clause-value : goal.returns-clause-value
returns-clause-value c =
    let p = goal.at.returns-clause-value c in
    let q = p.After-reduce-right in
    let l = c.reduce-left.result in
    let r = c.reduce-right.result in
    let f : FitsSigned w128 c.in_ok-numerator.numerator = search rules in
    let g : FitsSigned w128 c.in_ok-denominator.denominator = search rules in
    let e : c.new.result ≡ product_of q = (simp to_z-of_z at c.new.ensures) ∙ parts_of p.In_ok-denominator in
    subst (λ (x : Fraction). IsRatio x (c.args.a.now.num *ℤ c.args.b.now.num) (c.args.a.now.den *ℤ c.args.b.now.den)) (sym e)
    (product_ratio c.args.a.now c.args.b.now l.divisor r.divisor l.first r.first r.second l.second (left_of q) (right_of q))
