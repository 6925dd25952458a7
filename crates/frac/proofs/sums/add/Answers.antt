use Rattle.std.proofs.Common.{rules, ◌≡◌, ℤ, ◌*ℤ◌, FitsSigned, refl}
use Rattle.std.specs.Prelude.{unsigned_abs}
use Rattle.std.specs.Int.{w128}
use Rattle.std.proofs.lemmas.Int.{to_z-of_z}
use Rattle.std.proofs.lemmas.Nat.Gcd.{dvd_trans}
use Rattle.math_facts.specs.Fits.{Fits}
use Rattle.frac.specs.Ties.Reduced.{Reduces}
use Rattle.frac.proofs.Sharing.{first_divides}
use Rattle.frac.proofs.SumLaws.{cross_total, sum_is_fraction, sum_ratio}
use Rattle.frac.proofs.FormulaLaws.{comparison_parts, sum_fits, sum_total_fits, sum_denominator_fits}
use Rattle.frac.proofs.Exits.{on_err}
use Rattle.frac.proofs.sums.add.Goals as goal
use Rattle.frac.proofs.sums.add.Goals.{After-reduce-under, In_ok-left, In_ok-right, In_ok-sum, After-reduce-shared, After-quotient-rest, In_ok-denominator}

-- ---- what the calls gave

under_of : (c : After-reduce-under) →
    Reduces c.args.a.now.den c.args.b.now.den c.reduce-under.result.divisor c.reduce-under.result.first c.reduce-under.result.second
under_of c =
    let f : FitsSigned w128 c.parts-first.result.1 = search rules in
    let g : FitsSigned w128 c.parts-second.result.1 = search rules in
    rw (c.parts-first.ensures.denominator, c.parts-second.ensures.denominator) at (simp to_z-of_z at c.reduce-under.ensures)

left_of : (c : In_ok-left) →
    Fits (c.args.a.now.num *ℤ c.reduce-under.result.second) × (c.in_ok-left.left ≡ c.args.a.now.num *ℤ c.reduce-under.result.second)
left_of c =
    let f : FitsSigned w128 c.parts-first.result.0 = search rules in
    let g : FitsSigned w128 c.reduce-under.result.second = search rules in
    rw c.parts-first.ensures.numerator at (simp to_z-of_z at c.in_ok-left.ensures)

right_of : (c : In_ok-right) →
    Fits (c.args.b.now.num *ℤ c.reduce-under.result.first) × (c.in_ok-right.right ≡ c.args.b.now.num *ℤ c.reduce-under.result.first)
right_of c =
    let f : FitsSigned w128 c.parts-second.result.0 = search rules in
    let g : FitsSigned w128 c.reduce-under.result.first = search rules in
    rw c.parts-second.ensures.numerator at (simp to_z-of_z at c.in_ok-right.ensures)

-- the sum of both cross products
abbrev total_of : After-reduce-under → ℤ
total_of c = cross_total c.args.a.now c.args.b.now c.reduce-under.result.first c.reduce-under.result.second

sum_of : (c : In_ok-sum) → c.in_ok-left.left ≡ c.args.a.now.num *ℤ c.reduce-under.result.second →
    c.in_ok-right.right ≡ c.args.b.now.num *ℤ c.reduce-under.result.first →
    let total : ℤ = cross_total c.args.a.now c.args.b.now c.reduce-under.result.first c.reduce-under.result.second in
    Fits total × (c.in_ok-sum.sum ≡ total)
sum_of c l r =
    let f : FitsSigned w128 c.in_ok-left.left = search rules in
    let g : FitsSigned w128 c.in_ok-right.right = search rules in
    rw (l, r) at (simp to_z-of_z at c.in_ok-sum.ensures)

shared_of : (c : After-reduce-shared) (total : ℤ) → c.in_ok-sum.sum ≡ total →
    Reduces total c.reduce-under.result.divisor c.reduce-shared.result.divisor c.reduce-shared.result.first c.reduce-shared.result.second
shared_of c total e =
    let f : FitsSigned w128 c.in_ok-sum.sum = search rules in
    let g : FitsSigned w128 c.reduce-under.result.divisor = search rules in
    rw e at (simp to_z-of_z at c.reduce-shared.ensures)

rest_of : (c : After-quotient-rest) → c.reduce-shared.result.divisor *ℤ c.quotient-rest.result ≡ c.args.b.now.den
rest_of c =
    let f : FitsSigned w128 c.parts-second.result.1 = search rules in
    let g : FitsSigned w128 c.reduce-shared.result.divisor = search rules in
    rw c.parts-second.ensures.denominator at (simp to_z-of_z at c.quotient-rest.ensures.exact)

denominator_of : (c : In_ok-denominator) → Fits (c.reduce-under.result.first *ℤ c.quotient-rest.result) ×
    (c.in_ok-denominator.denominator ≡ c.reduce-under.result.first *ℤ c.quotient-rest.result)
denominator_of c =
    let f : FitsSigned w128 c.reduce-under.result.first = search rules in
    let g : FitsSigned w128 c.quotient-rest.result = search rules in
    simp to_z-of_z at c.in_ok-denominator.ensures

-- ---- where a number does not fit

pub returns-in_err-left-clause-past : goal.returns-in_err-left-clause-past
returns-in_err-left-clause-past c =
    let u = c.reduce-under.result in
    let p = (goal.at.returns-in_err-left-clause-past c).After-reduce-under in
    let f : FitsSigned w128 c.parts-first.result.0 = search rules in
    let g : FitsSigned w128 u.second = search rules in
    let past = rw c.parts-first.ensures.numerator at (simp to_z-of_z at c.in_err-left.ensures) in
    on_err c.from_residual.result
    (λ fits. past (comparison_parts c.args.a.now c.args.b.now u.divisor u.first u.second (under_of p) fits.products).0)

pub returns-in_err-right-clause-past : goal.returns-in_err-right-clause-past
returns-in_err-right-clause-past c =
    let u = c.reduce-under.result in
    let p = (goal.at.returns-in_err-right-clause-past c).After-reduce-under in
    let f : FitsSigned w128 c.parts-second.result.0 = search rules in
    let g : FitsSigned w128 u.first = search rules in
    let past = rw c.parts-second.ensures.numerator at (simp to_z-of_z at c.in_err-right.ensures) in
    on_err c.from_residual-in_err-right.result
    (λ fits. past (comparison_parts c.args.a.now c.args.b.now u.divisor u.first u.second (under_of p) fits.products).1)

pub returns-in_err-sum-clause-past : goal.returns-in_err-sum-clause-past
returns-in_err-sum-clause-past c =
    let u = c.reduce-under.result in
    let p = goal.at.returns-in_err-sum-clause-past c in
    let f : FitsSigned w128 c.in_ok-left.left = search rules in
    let g : FitsSigned w128 c.in_ok-right.right = search rules in
    let past = rw ((left_of p.In_ok-left).1, (right_of p.In_ok-right).1) at (simp to_z-of_z at c.in_err-sum.ensures) in
    on_err c.from_residual-in_err-sum.result
    (λ fits. past (sum_total_fits c.args.a.now c.args.b.now u.divisor u.first u.second (under_of p.After-reduce-under) fits))

pub returns-in_err-denominator-clause-past : goal.returns-in_err-denominator-clause-past
returns-in_err-denominator-clause-past c =
    let u = c.reduce-under.result in
    let s = c.reduce-shared.result in
    let p = goal.at.returns-in_err-denominator-clause-past c in
    let total = sum_of p.In_ok-sum (left_of p.In_ok-left).1 (right_of p.In_ok-right).1 in
    let shared = shared_of p.After-reduce-shared (total_of p.After-reduce-under) total.1 in
    let f : FitsSigned w128 u.first = search rules in
    let g : FitsSigned w128 c.quotient-rest.result = search rules in
    let past = simp to_z-of_z at c.in_err-denominator.ensures in
    on_err c.from_residual-in_err-denominator.result
    (λ fits. past (sum_denominator_fits c.args.a.now c.args.b.now u.divisor u.first u.second s.divisor c.quotient-rest.result
    (under_of p.After-reduce-under) shared.positive shared.divisor (rest_of p.After-quotient-rest) fits))

-- ---- the sum

pub quotient-rest-requires-clause-divides : goal.quotient-rest-requires-clause-divides
quotient-rest-requires-clause-divides c =
    let u = c.reduce-under.result in
    let p = goal.at.quotient-rest-requires-clause-divides c in
    let under = under_of p.After-reduce-under in
    let shared = shared_of p.After-reduce-shared c.in_ok-sum.sum refl in
    let f : FitsSigned w128 c.parts-second.result.1 = search rules in
    let g : FitsSigned w128 c.reduce-shared.result.divisor = search rules in
    simp to_z-of_z (rw c.parts-second.ensures.denominator
    (dvd_trans (unsigned_abs c.reduce-shared.result.divisor) shared.divisor.1 (first_divides u.divisor u.second c.args.b.now.den under.second)))

pub new-requires : goal.new-requires
new-requires c =
    let u = c.reduce-under.result in
    let s = c.reduce-shared.result in
    let p = goal.at.new-requires c in
    let total = sum_of p.In_ok-sum (left_of p.In_ok-left).1 (right_of p.In_ok-right).1 in
    let shared = shared_of p.After-reduce-shared (total_of p.After-reduce-under) total.1 in
    let f : FitsSigned w128 s.first = search rules in
    let g : FitsSigned w128 c.in_ok-denominator.denominator = search rules in
    simp to_z-of_z (rw (denominator_of p.In_ok-denominator).1
    (sum_is_fraction c.args.a.now c.args.b.now u.divisor u.first u.second s.divisor s.first s.second c.quotient-rest.result
    c.parts-first.ensures.valid.lowest c.parts-second.ensures.valid.lowest (under_of p.After-reduce-under) shared (rest_of p.After-quotient-rest) total.0
    (denominator_of p.In_ok-denominator).0))

pub returns-clause-value : goal.returns-clause-value
returns-clause-value c =
    let u = c.reduce-under.result in
    let s = c.reduce-shared.result in
    let p = goal.at.returns-clause-value c in
    let total = sum_of p.In_ok-sum (left_of p.In_ok-left).1 (right_of p.In_ok-right).1 in
    let shared = shared_of p.After-reduce-shared (total_of p.After-reduce-under) total.1 in
    let f : FitsSigned w128 s.first = search rules in
    let g : FitsSigned w128 c.in_ok-denominator.denominator = search rules in
    rw (rw (denominator_of p.In_ok-denominator).1 at (simp to_z-of_z at c.new.ensures))
    (sum_ratio c.args.a.now c.args.b.now u.divisor u.first u.second s.divisor s.first s.second c.quotient-rest.result (under_of p.After-reduce-under) shared
    (rest_of p.After-quotient-rest))

pub returns-clause-fits : goal.returns-clause-fits
returns-clause-fits c =
    let u = c.reduce-under.result in
    let s = c.reduce-shared.result in
    let p = goal.at.returns-clause-fits c in
    let total = sum_of p.In_ok-sum (left_of p.In_ok-left).1 (right_of p.In_ok-right).1 in
    let shared = shared_of p.After-reduce-shared (total_of p.After-reduce-under) total.1 in
    sum_fits c.args.a.now c.args.b.now u.divisor u.first u.second s.divisor c.quotient-rest.result (under_of p.After-reduce-under) shared.positive
    shared.divisor (rest_of p.After-quotient-rest) (left_of p.In_ok-left).0 (right_of p.In_ok-right).0 total.0 (denominator_of p.In_ok-denominator).0
