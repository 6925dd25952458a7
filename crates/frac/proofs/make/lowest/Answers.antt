use Rattle.std.proofs.Common.{rules, ◌≡◌, ◌≢◌, ◌/◌, ◌<◌, pos, FitsSigned, sym, subst, ◌∙◌}
use Rattle.std.specs.Prelude.{unsigned_abs}
use Rattle.std.specs.Int.{w128, IsGcd}
use Rattle.std.proofs.lemmas.Int.{to_z-of_z}
use Rattle.frac.specs.Signs.{differ_in_sign, with_sign}
use Rattle.frac.specs.Fractions.{Fraction, IsFraction, IsRatio}
use Rattle.frac.proofs.Reducing.{nonzero_abs, positive_gcd, reduced, reduced_ratio, reduced_is_fraction, reduced_too_large}
use Rattle.frac.proofs.Exits.{on_err}
use Rattle.frac.proofs.make.lowest.Goals as goal
use Rattle.frac.proofs.make.lowest.Goals.{After-greatest_divisor-divisor, In_ok-denominator}

numerator_size_of : (c : After-greatest_divisor-divisor) → c.unsigned_abs-numerator_size.result ≡ unsigned_abs c.args.n
numerator_size_of c = let f : FitsSigned w128 c.args.n = c.ranges.n in simp to_z-of_z at c.unsigned_abs-numerator_size.ensures.value

denominator_size_of : (c : After-greatest_divisor-divisor) → c.unsigned_abs-denominator_size.result ≡ unsigned_abs c.args.d
denominator_size_of c = let f : FitsSigned w128 c.args.d = c.ranges.d in simp to_z-of_z at c.unsigned_abs-denominator_size.ensures.value

divisor_of : (c : After-greatest_divisor-divisor) → IsGcd (unsigned_abs c.args.n) (unsigned_abs c.args.d) c.greatest_divisor-divisor.result
divisor_of c = rw (numerator_size_of c, denominator_size_of c) at c.greatest_divisor-divisor.ensures

positive_of : (c : After-greatest_divisor-divisor) → c.args.d ≢ pos 0 → 0 < c.greatest_divisor-divisor.result
positive_of c z =
    positive_gcd (unsigned_abs c.args.n) (unsigned_abs c.args.d) c.greatest_divisor-divisor.result (nonzero_abs c.args.d z) (divisor_of c)

pub nonzero_div-numerator_size : goal.nonzero_div-numerator_size
nonzero_div-numerator_size c = positive_of (goal.at.nonzero_div-numerator_size c).After-greatest_divisor-divisor c.requires

pub nonzero_div-denominator_size : goal.nonzero_div-denominator_size
nonzero_div-denominator_size c = positive_of (goal.at.nonzero_div-denominator_size c).After-greatest_divisor-divisor c.requires

pub returns-in_err-numerator-clause-past : goal.returns-in_err-numerator-clause-past
returns-in_err-numerator-clause-past c =
    let p = (goal.at.returns-in_err-numerator-clause-past c).After-greatest_divisor-divisor in
    on_err c.from_residual.result (reduced_too_large c.args.n c.args.d c.greatest_divisor-divisor.result c.requires (divisor_of p)
    (λ fits. (rw (numerator_size_of p) at c.in_err-numerator.ensures) fits.0))

pub returns-in_err-denominator-clause-past : goal.returns-in_err-denominator-clause-past
returns-in_err-denominator-clause-past c =
    let p = (goal.at.returns-in_err-denominator-clause-past c).After-greatest_divisor-divisor in
    on_err c.from_residual-in_err-denominator.result (reduced_too_large c.args.n c.args.d c.greatest_divisor-divisor.result c.requires (divisor_of p)
    (λ fits. (rw (denominator_size_of p) at c.in_err-denominator.ensures) fits.1))

-- the fraction's parts
parts_of : (c : In_ok-denominator) →
    ◌≡◌ {A = Fraction} (record { num = c.in_ok-numerator.numerator; den = c.in_ok-denominator.denominator }) (reduced c.args.n c.args.d c.greatest_divisor-divisor.result)
parts_of c =
    let p = (goal.at.new-requires c).After-greatest_divisor-divisor in
    let f : FitsSigned w128 c.args.n = c.ranges.n in
    let h : FitsSigned w128 c.args.d = c.ranges.d in
    let s : c.differ_in_sign.result ≡ differ_in_sign c.args.n c.args.d = simp to_z-of_z at c.differ_in_sign.ensures in
    let n : c.in_ok-numerator.numerator ≡ with_sign (differ_in_sign c.args.n c.args.d) (unsigned_abs c.args.n / c.greatest_divisor-divisor.result) =
    rw (numerator_size_of p, s) at c.in_ok-numerator.ensures.1 in
    let d : c.in_ok-denominator.denominator ≡ pos (unsigned_abs c.args.d / c.greatest_divisor-divisor.result) =
    rw (denominator_size_of p) at c.in_ok-denominator.ensures.1 in
    λ i. record { num = n i; den = d i }

pub new-requires : goal.new-requires
new-requires c =
    let p = (goal.at.new-requires c).After-greatest_divisor-divisor in
    let f : FitsSigned w128 c.in_ok-numerator.numerator = search rules in
    let h : FitsSigned w128 c.in_ok-denominator.denominator = search rules in
    simp to_z-of_z (subst IsFraction (sym (parts_of c))
    (reduced_is_fraction c.args.n c.args.d c.greatest_divisor-divisor.result c.requires (divisor_of p)
    (rw (numerator_size_of p) at c.in_ok-numerator.ensures.0) (rw (denominator_size_of p) at c.in_ok-denominator.ensures.0)))

pub returns-clause-value : goal.returns-clause-value
returns-clause-value c =
    let p = (goal.at.returns-clause-value c).After-greatest_divisor-divisor in
    let f : FitsSigned w128 c.in_ok-numerator.numerator = search rules in
    let h : FitsSigned w128 c.in_ok-denominator.denominator = search rules in
    let e : c.new.result ≡ reduced c.args.n c.args.d c.greatest_divisor-divisor.result =
    (simp to_z-of_z at c.new.ensures) ∙ parts_of (goal.at.returns-clause-value c).In_ok-denominator in
    subst (λ (x : Fraction). IsRatio x c.args.n c.args.d) (sym e) (reduced_ratio c.args.n c.args.d c.greatest_divisor-divisor.result (divisor_of p))
