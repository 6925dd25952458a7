use Rattle.std.proofs.Common.{rules, ◌≡◌, ◌*ℤ◌, FitsSigned}
use Rattle.std.specs.Int.{w128}
use Rattle.std.proofs.lemmas.Cmp.{int_ranked}
use Rattle.std.proofs.lemmas.Int.{to_z-of_z}
use Rattle.math_facts.specs.Fits.{Fits}
use Rattle.frac.specs.Ties.Reduced.{Reduces}
use Rattle.frac.proofs.FormulaLaws.{comparison_fits, comparison_parts, comparison_order}
use Rattle.frac.proofs.Exits.{on_err}
use Rattle.frac.proofs.sums.cmp.Goals as goal
use Rattle.frac.proofs.sums.cmp.Goals.{After-reduce-under, In_ok-left, In_ok-right}

under_of : (c : After-reduce-under) →
    Reduces c.args.a.now.den c.args.b.now.den c.reduce-under.result.divisor c.reduce-under.result.first c.reduce-under.result.second
under_of c =
    let f : FitsSigned w128 c.parts-first.result.1 = search rules in
    let g : FitsSigned w128 c.parts-second.result.1 = search rules in
    rw (c.parts-first.ensures.denominator, c.parts-second.ensures.denominator) at (simp to_z-of_z at c.reduce-under.ensures)

left_of : (c : In_ok-left) →
    Fits (c.args.a.now.num *ℤ c.reduce-under.result.second) × (c.in_ok-left.left ≡ c.args.a.now.num *ℤ c.reduce-under.result.second)
left_of c =
    let f : FitsSigned w128 c.parts-first.result.0 = search rules in
    let g : FitsSigned w128 c.reduce-under.result.second = search rules in
    rw c.parts-first.ensures.numerator at (simp to_z-of_z at c.in_ok-left.ensures)

right_of : (c : In_ok-right) →
    Fits (c.args.b.now.num *ℤ c.reduce-under.result.first) × (c.in_ok-right.right ≡ c.args.b.now.num *ℤ c.reduce-under.result.first)
right_of c =
    let f : FitsSigned w128 c.parts-second.result.0 = search rules in
    let g : FitsSigned w128 c.reduce-under.result.first = search rules in
    rw c.parts-second.ensures.numerator at (simp to_z-of_z at c.in_ok-right.ensures)

pub returns-in_err-left-clause-past : goal.returns-in_err-left-clause-past
returns-in_err-left-clause-past c =
    let u = c.reduce-under.result in
    let p = (goal.at.returns-in_err-left-clause-past c).After-reduce-under in
    let f : FitsSigned w128 c.parts-first.result.0 = search rules in
    let g : FitsSigned w128 u.second = search rules in
    let past = rw c.parts-first.ensures.numerator at (simp to_z-of_z at c.in_err-left.ensures) in
    on_err c.from_residual.result (λ fits. past (comparison_parts c.args.a.now c.args.b.now u.divisor u.first u.second (under_of p) fits).0)

pub returns-in_err-right-clause-past : goal.returns-in_err-right-clause-past
returns-in_err-right-clause-past c =
    let u = c.reduce-under.result in
    let p = (goal.at.returns-in_err-right-clause-past c).After-reduce-under in
    let f : FitsSigned w128 c.parts-second.result.0 = search rules in
    let g : FitsSigned w128 u.first = search rules in
    let past = rw c.parts-second.ensures.numerator at (simp to_z-of_z at c.in_err-right.ensures) in
    on_err c.from_residual-in_err-right.result
    (λ fits. past (comparison_parts c.args.a.now c.args.b.now u.divisor u.first u.second (under_of p) fits).1)

pub returns-clause-fits : goal.returns-clause-fits
returns-clause-fits c =
    let u = c.reduce-under.result in
    let p = goal.at.returns-clause-fits c in
    comparison_fits c.args.a.now c.args.b.now u.divisor u.first u.second (under_of p.After-reduce-under) (left_of p.In_ok-left).0 (right_of p.In_ok-right).0

pub returns-clause-value : goal.returns-clause-value
returns-clause-value c =
    let u = c.reduce-under.result in
    let p = goal.at.returns-clause-value c in
    let f : FitsSigned w128 c.in_ok-left.left = search rules in
    let g : FitsSigned w128 c.in_ok-right.right = search rules in
    let e = rw ((left_of p.In_ok-left).1, (right_of p.In_ok-right).1) at (simp to_z-of_z at c.cmp.ensures) in
    comparison_order c.args.a.now c.args.b.now u.divisor u.first u.second c.cmp.result (under_of p.After-reduce-under)
    (int_ranked (c.args.a.now.num *ℤ u.second) (c.args.b.now.num *ℤ u.first) c.cmp.result e)
