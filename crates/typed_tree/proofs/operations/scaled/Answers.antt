use Rattle.std.proofs.Common.{rules, ℤ, ◌*ℤ◌, map, sym, ◌∙◌, FitsSigned}
use Rattle.std.specs.Int.{w128}
use Rattle.std.specs.List.{list_all}
use Rattle.std.proofs.lemmas.Int.{to_z-of_z}
use Rattle.boogie_tree.specs.declared.tree.Column.{Column}
use Rattle.typed_tree.specs.AffineForm.{form_scaled, fits}
use Rattle.typed_tree.specs.Ties.FormOrder.{terms_fit}
use Rattle.typed_tree.specs.Ties.FormView.{form_of}
use Rattle.typed_tree.proofs.Sums.{terms_big, quotients_big, constant_big}
use Rattle.typed_tree.proofs.operations.scaled.Goals as goal

pub returns-in_default-clause-too_big : goal.returns-in_default-clause-too_big
returns-in_default-clause-too_big c _ =
    let f : FitsSigned w128 c.args.m = c.ranges.m in
    let g : FitsSigned w128 c.args.b.now.constant = search rules in
    constant_big (form_scaled c.args.m (form_of c.args.b.now)) (simp to_z-of_z at c.in_default.ensures)

pub returns-in_err-scaled_terms-clause-too_big : goal.returns-in_err-scaled_terms-clause-too_big
returns-in_err-scaled_terms-clause-too_big c e =
    let f : FitsSigned w128 c.args.m = c.ranges.m in
    let h = c.in_err-scaled_terms.ensures.too_big (search rules) in
    terms_big (form_scaled c.args.m (form_of c.args.b.now))
    ((λ i. terms_fit (map (λ (t : Column × ℤ). (t.0, c.args.m *ℤ t.1)) (sym c.as_slice.ensures i))) ∙ (simp to_z-of_z at h))

pub returns-in_err-scaled_numbers-clause-too_big : goal.returns-in_err-scaled_numbers-clause-too_big
returns-in_err-scaled_numbers-clause-too_big c e =
    let f : FitsSigned w128 c.args.m = c.ranges.m in
    let h = c.in_err-scaled_numbers.ensures.too_big (search rules) in
    quotients_big (form_scaled c.args.m (form_of c.args.b.now))
    ((λ i. list_all fits (map (λ (q : ℤ). c.args.m *ℤ q) (sym c.as_slice-2.ensures i))) ∙ (simp to_z-of_z at h))
