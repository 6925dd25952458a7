use Rattle.std.proofs.Common.{to_z, ◌*ℤ◌, ℕ, ℤ, List, pos, length, get_or, FitsSigned, rules, refl, sym, subst}
use Rattle.std.specs.Int.{w128}
use Rattle.std.proofs.lemmas.Int.{to_z-of_z}
use Rattle.std.proofs.lemmas.List.{drop_more, drop_all}
use Rattle.math_facts.specs.Terms.{IsBelow}
use Rattle.lin_rows.specs.Points.{point_of}
use Rattle.lin_rows.proofs.PointLemmas.{IsBelow_at, valuing_starts, valuing_goes, valuing_stops, valuing_ends}
use Rattle.lin_rows.proofs.points.sum_at.Goals as goal

pub loop-column-init : goal.loop-column-init
loop-column-init c = record { valuing = valuing_starts (point_of c.args.point.now) c.args.terms.now; below = λ b. b }

pub returns-in_err-value_at : goal.returns-in_err-value_at
returns-in_err-value_at c =
    rw c.from_residual.ensures
    (λ h. c.in_err-value_at.ensures (IsBelow_at (length c.args.point.now) c.args.terms.now c.loop-column.column-index (0, pos 0) c.loop-column-test.true h.below))

pub returns-in_err-sum : goal.returns-in_err-sum
returns-in_err-sum c =
    let ts : List (ℕ × ℤ) = c.args.terms.now in
    let vs : List ℤ = c.args.point.now in
    let i : ℕ = c.loop-column.column-index in
    let f : FitsSigned w128 (get_or c.args.terms.now c.loop-column.column-index (0, pos 0)).1 = search rules in
    let g : FitsSigned w128 c.in_ok-value_at.field-0 = search rules in
    let n = rw c.in_ok-value_at.ensures.1 at (simp to_z-of_z at c.in_err-sum.ensures) in
    rw c.from_residual-in_err-sum.ensures
    (λ h. valuing_stops (point_of vs) ts (to_z w128 c.loop-column.sum-bits) i (0, pos 0) c.loop-column-test.true c.loop-column.invariant.valuing (λ p q. n (p, q)) h.fits)

pub loop-column-preserved : goal.loop-column-preserved
loop-column-preserved c =
    let ts : List (ℕ × ℤ) = c.args.terms.now in
    let vs : List ℤ = c.args.point.now in
    let i : ℕ = c.loop-column.column-index in
    let t : ℕ × ℤ = get_or ts i (0, pos 0) in
    let f : FitsSigned w128 (get_or c.args.terms.now c.loop-column.column-index (0, pos 0)).1 = search rules in
    let g : FitsSigned w128 c.in_ok-value_at.field-0 = search rules in
    let k : FitsSigned w128 c.in_ok-sum.sum = search rules in
    let h = rw c.in_ok-value_at.ensures.1 at (simp to_z-of_z at c.in_ok-sum.ensures) in
    simp to_z-of_z
    (record {
      valuing = valuing_goes (point_of vs) ts (to_z w128 c.loop-column.sum-bits) c.in_ok-sum.sum (t.1 *ℤ point_of vs t.0) i (0, pos 0) c.loop-column-test.true
          c.loop-column.invariant.valuing refl h.1 h.0.0 (rw h.1 h.0.1);
      below = λ b. c.loop-column.invariant.below
          (subst (IsBelow (length vs)) (sym (drop_more ts i (0, pos 0) c.loop-column-test.true)) (c.in_ok-value_at.ensures.0, b));
    })

pub returns : goal.returns
returns c =
    let ts : List (ℕ × ℤ) = c.args.terms.now in
    let vs : List ℤ = c.args.point.now in
    let i : ℕ = c.loop-column.column-index in
    let e = valuing_ends (point_of vs) ts (to_z w128 c.loop-column.sum-bits) i c.loop-column-test.false c.loop-column.invariant.valuing in (
      record {
        below = c.loop-column.invariant.below (subst (IsBelow (length vs)) (sym (drop_all i ts c.loop-column-test.false)) tt);
        fits = e.0;
      },
      e.1,
    )
