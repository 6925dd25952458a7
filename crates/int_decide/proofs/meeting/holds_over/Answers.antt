use Rattle.std.proofs.Common.{rules, ℕ, to_z, FitsSigned, sym, ap}
use Rattle.std.specs.Int.{w128}
use Rattle.std.proofs.lemmas.Int.{to_z-of_z}
use Rattle.std.proofs.lemmas.Bool.{eqb-true}
use Rattle.lin_rows.specs.Points.{point_of}
use Rattle.int_decide.proofs.ShownValues.{le_holds, eq_holds}
use Rattle.int_decide.proofs.meeting.holds_over.Goals as goal

pub returns-in-Le : goal.returns-in-Le
returns-in-Le c =
    let f : FitsSigned w128 c.in-Some-Some.sum = search rules in
    let g : FitsSigned w128 c.in-Some-Some.bound = search rules in
    let h : FitsSigned w128 c.bound.result = search rules in
    let d : FitsSigned w128 c.args.denominator = c.ranges.denominator in
    let s = rw c.terms.ensures.value at c.in-Some-Some.ensures.1 in
    let b = rw c.bound.ensures at (simp to_z-of_z at c.in-Some-Some.ensures'.1) in
    λ t. le_holds c.args.row.now (point_of c.args.numerators.now) c.args.denominator c.in-Some-Some.sum c.in-Some-Some.bound s b (sym c.in-Le.ensures) (simp to_z-of_z at t)

pub returns-in-Eq : goal.returns-in-Eq
returns-in-Eq c =
    let f : FitsSigned w128 c.in-Some-Some.sum = search rules in
    let g : FitsSigned w128 c.in-Some-Some.bound = search rules in
    let h : FitsSigned w128 c.bound.result = search rules in
    let d : FitsSigned w128 c.args.denominator = c.ranges.denominator in
    let s = rw c.terms.ensures.value at c.in-Some-Some.ensures.1 in
    let b = rw c.bound.ensures at (simp to_z-of_z at c.in-Some-Some.ensures'.1) in
    λ t. eq_holds c.args.row.now (point_of c.args.numerators.now) c.args.denominator c.in-Some-Some.sum c.in-Some-Some.bound s b (sym c.in-Eq.ensures)
    (simp to_z-of_z at (ap (λ (n : ℕ). to_z w128 n) (eqb-true _ _ t)))
