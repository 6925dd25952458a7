use Rattle.std.proofs.Common.{rules, ◌≡◌, ◌+ℤ◌, ◌*ℤ◌, ◌∙◌, FitsSigned, sym, subst}
use Rattle.std.specs.Int.{w128}
use Rattle.std.proofs.lemmas.Int.{to_z-of_z}
use Rattle.math_facts.specs.Fits.{Fits}
use Rattle.lin_rows.specs.Rows.{Holds, IsRow}
use Rattle.lin_rows.specs.Sums.{sum_kind, scaled_sum}
use Rattle.lin_rows.specs.Ties.Merging.{AreMerged}
use Rattle.lin_rows.proofs.RowLemmas.{scaled_sum_from_parts}
use Rattle.lin_rows.proofs.HoldsLaws.{holds-scaled_sum}
use Rattle.lin_rows.proofs.sums.add_scaled.Goals as goal
use Rattle.lin_rows.proofs.sums.add_scaled.Goals.{After-sum_kind}

-- the terms that `merged` gave
terms_of : (c : goal.After-new) → AreMerged c.args.a.now.terms c.args.m c.args.b.now.terms c.in-Some-2.terms.items
terms_of c =
    let f : FitsSigned w128 c.args.m = c.ranges.m in
    rw (c.terms.ensures.value, c.terms-2.ensures.value) at (simp to_z-of_z at (rw c.in-Some-2.is at c.in_ok-terms.ensures))

-- the bound that `plus_times` gave
bound_of : (c : goal.After-new) →
    (Fits (c.args.m *ℤ c.args.b.now.bound) × Fits (c.args.a.now.bound +ℤ (c.args.m *ℤ c.args.b.now.bound))) ×
    (c.in-Some.bound ≡ c.args.a.now.bound +ℤ (c.args.m *ℤ c.args.b.now.bound))
bound_of c =
    let f : FitsSigned w128 c.args.m = c.ranges.m in
    let g : FitsSigned w128 c.bound.result = search rules in
    let k : FitsSigned w128 c.bound-2.result = search rules in
    rw (c.bound.ensures, c.bound-2.ensures) at (simp to_z-of_z at c.in-Some.ensures)

kind_of : (c : goal.After-new) → c.sum_kind.result ≡ sum_kind c.args.a.now.kind c.args.b.now.kind
kind_of c = rw (c.kind.ensures, c.kind-2.ensures) at c.sum_kind.ensures

pub returns-clause-fits : goal.returns-clause-fits
returns-clause-fits c = record {
  products = λ d. ((terms_of c).fits d).0;
  sums = λ d. ((terms_of c).fits d).1;
  bound_product = (bound_of c).0.0;
  bound_sum = (bound_of c).0.1;
}

pub returns-clause-coefficients : goal.returns-clause-coefficients
returns-clause-coefficients c = rw c.new.ensures (terms_of c).coefficients

value_of : (c : goal.After-new) → c.new.result ≡ scaled_sum c.args.a.now c.args.m c.args.b.now
value_of c =
    let j : FitsSigned w128 c.in-Some.bound = search rules in
    (simp to_z-of_z at c.new.ensures) ∙
    scaled_sum_from_parts c.args.a.now c.args.m c.args.b.now c.in-Some-2.terms.items c.sum_kind.result c.in-Some.bound (terms_of c) (kind_of c) (bound_of c).1

pub returns-clause-value : goal.returns-clause-value
returns-clause-value c = value_of c

pub returns-clause-holds : goal.returns-clause-holds
returns-clause-holds c = λ point h k.
    subst (Holds point) (sym (value_of c)) (holds-scaled_sum point c.args.a.now c.args.m c.args.b.now c.requires h k)

pub returns-in_default-clause-past : goal.returns-in_default-clause-past
returns-in_default-clause-past c =
    let f : FitsSigned w128 c.args.m = c.ranges.m in
    let g : FitsSigned w128 c.bound.result = search rules in
    let k : FitsSigned w128 c.bound-2.result = search rules in
    let n = rw (c.bound.ensures, c.bound-2.ensures) at (simp to_z-of_z at c.in_default.ensures) in
    λ e h. n (h.bound_product, h.bound_sum)

pub returns-in_default-2-clause-past : goal.returns-in_default-2-clause-past
returns-in_default-2-clause-past c =
    let f : FitsSigned w128 c.args.m = c.ranges.m in
    let n = rw (c.terms.ensures.value, c.terms-2.ensures.value) at (simp to_z-of_z at (rw c.in_default-2.is at c.in_ok-terms.ensures)) in
    λ e h. n (λ d. (h.products d, h.sums d))

-- the parts make a row
pub new-requires : goal.new-requires
new-requires c =
    let f : FitsSigned w128 c.args.m = c.ranges.m in
    let g : FitsSigned w128 c.bound.result = search rules in
    let k : FitsSigned w128 c.bound-2.result = search rules in
    let b : FitsSigned w128 c.in-Some.bound = search rules in
    let t : AreMerged c.args.a.now.terms c.args.m c.args.b.now.terms c.in-Some-2.terms.items =
    rw (c.terms.ensures.value, c.terms-2.ensures.value) at (simp to_z-of_z at (rw c.in-Some-2.is at c.in_ok-terms.ensures)) in
    let s = simp to_z-of_z at c.in-Some.ensures in
    simp to_z-of_z (record { ascends = t.terms.ascends; coefficients = t.terms.coefficients; bound_fits = subst Fits (sym s.1) s.0.1 })

pub returns-clause-valid : goal.returns-clause-valid
returns-clause-valid c = subst IsRow (sym c.new.ensures) (new-requires (goal.at.returns-clause-valid c).After-sum_kind)

pub returns-clause-past : goal.returns-clause-past
returns-clause-past c = λ e h. cc
