use Rattle.std.proofs.Common.{rules, ap, sym, ◌∙◌, FitsSigned}
use Rattle.std.specs.Int.{w128}
use Rattle.std.specs.List.{list_all}
use Rattle.std.proofs.lemmas.Int.{to_z-of_z}
use Rattle.typed_tree.specs.AffineForm.{form_plus, fits, added_to}
use Rattle.typed_tree.specs.Ties.FormOrder.{terms_fit}
use Rattle.typed_tree.specs.Ties.FormView.{form_of}
use Rattle.typed_tree.proofs.Sums.{terms_big, constant_big, joined_fit}
use Rattle.typed_tree.proofs.operations.plus.Goals as goal

pub returns-in_default-clause-too_big : goal.returns-in_default-clause-too_big
returns-in_default-clause-too_big c _ =
    let f : FitsSigned w128 c.args.a.now.constant = search rules in
    let g : FitsSigned w128 c.args.b.now.constant = search rules in
    constant_big (form_plus (form_of c.args.a.now) (form_of c.args.b.now)) (simp to_z-of_z at c.in_default.ensures)

pub returns-in_err-terms-clause-too_big : goal.returns-in_err-terms-clause-too_big
returns-in_err-terms-clause-too_big c e =
    terms_big (form_plus (form_of c.args.a.now) (form_of c.args.b.now))
    ((λ i. terms_fit (added_to (sym c.as_slice.ensures i) (sym c.as_slice-2.ensures i))) ∙ c.in_err-terms.ensures.too_big (search rules))

pub invariant_of-result : goal.invariant_of-result
invariant_of-result c =
    let n : FitsSigned w128 c.in-Some.constant = search rules in
    let f : FitsSigned w128 c.args.a.now.constant = search rules in
    let g : FitsSigned w128 c.args.b.now.constant = search rules in
    let k = simp to_z-of_z at c.in-Some.ensures in
    record {
      in_order = c.in_ok-terms.ensures.valid.in_order;
      terms_fit = c.in_ok-terms.ensures.valid.fit;
      quotients_fit = ap (list_all fits) c.in_ok-extend_from_slice.ensures.ok
          ∙ joined_fit c.in_ok-quotients.quotients.items c.as_slice-4.result.now
          (ap (list_all fits) (c.in_ok-quotients.ensures.ok ∙ c.as_slice-3.ensures) ∙ c.args.a.now.quotients_fit)
          (ap (list_all fits) c.as_slice-4.ensures ∙ c.args.b.now.quotients_fit);
      constant_fits = simp to_z-of_z (ap fits k.0 ∙ k.1);
    }
