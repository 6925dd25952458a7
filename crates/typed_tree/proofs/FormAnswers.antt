-- The forms of operations, from the answers for their operands.
use Rattle.std.proofs.Common.{◌≡◌, Bool, true, false, ◌&&◌, ℤ, negsuc, Result, Ok, Err, IfOk, refl, ap, sym, ◌∙◌}
use Rattle.std.specs.List.{list_all}
use Rattle.std.proofs.lemmas.Bool.{and_from}
use Rattle.boogie_tree.specs.declared.span.Span.{Span}
use Rattle.boogie_tree.specs.declared.tree.Op.{Op}
use Rattle.boogie_tree.specs.declared.tree.Column.{Column}
use Rattle.typed_tree.specs.declared.form.Form as code
use Rattle.typed_tree.specs.declared.fault.AffineFault.{AffineFault}
use Rattle.typed_tree.specs.declared.fault.AffineFault.TheVariants as affine
use Rattle.typed_tree.specs.TypedTree.{TypedExpression, Not, Neg, Bin}
use Rattle.typed_tree.specs.AffineForm.{Form, form, forms_fit, form_fits, fits, form_times, operation}
use Rattle.typed_tree.specs.Ties.FormOrder.{terms_fit}
use Rattle.typed_tree.specs.Ties.FormView.{form_of, IsForm, IsFormAnswer}

left_fails : (x y : Bool) → x ≡ false → (x && y) ≡ false
left_fails x y h = ap (λ (b : Bool). b && y) h

right_fails : (x y : Bool) → y ≡ false → (x && y) ≡ false
right_fails true y h = h
right_fails false y h = refl

-- each number of a form of the code fits
made_fits : (f : code.Form) → form_fits (form_of f) ≡ true
made_fits f =
    and_from (terms_fit f.terms.items) (list_all fits f.quotients.items && fits f.constant) f.terms_fit
    (and_from (list_all fits f.quotients.items) (fits f.constant) f.quotients_fit f.constant_fits)

fits_as : (f : code.Form) (a : Form) → form_of f ≡ a → form_fits a ≡ true
fits_as f a e = ap form_fits (sym e) ∙ made_fits f

-- ---- faults of operands

pub neg_refused : (fixed : Column → Bool) (old : Bool) (at : Span) (e : TypedExpression) (f : AffineFault) → (f ≡ affine.TooBig → forms_fit fixed old e ≡ false) → f ≡ affine.TooBig → forms_fit fixed old (Neg at e) ≡ false
neg_refused fixed old at e f h b = left_fails (forms_fit fixed old e) (form_fits (form fixed old (Neg at e))) (h b)

pub left_refused : (fixed : Column → Bool) (old : Bool) (at : Span) (op : Op) (a b : TypedExpression) (f : AffineFault) → (f ≡ affine.TooBig → forms_fit fixed old a ≡ false) → f ≡ affine.TooBig →
    forms_fit fixed old (Bin at op a b) ≡ false
left_refused fixed old at op a b f h t = left_fails (forms_fit fixed old a) (forms_fit fixed old b && form_fits (form fixed old (Bin at op a b))) (h t)

pub right_refused : (fixed : Column → Bool) (old : Bool) (at : Span) (op : Op) (a b : TypedExpression) (f : AffineFault) → (f ≡ affine.TooBig → forms_fit fixed old b ≡ false) → f ≡ affine.TooBig →
    forms_fit fixed old (Bin at op a b) ≡ false
right_refused fixed old at op a b f h t =
    right_fails (forms_fit fixed old a) (forms_fit fixed old b && form_fits (form fixed old (Bin at op a b)))
    (left_fails (forms_fit fixed old b) (form_fits (form fixed old (Bin at op a b))) (h t))

-- ---- operations

pub neg_formed : (fixed : Column → Bool) (old : Bool) (at : Span) (e : TypedExpression) (f : code.Form) (r : Result code.Form AffineFault) → IsForm fixed old e f →
    IfOk r (λ g. form_of g ≡ form_times (negsuc 0) (form_of f)) → (r ≡ Err affine.TooBig → form_fits (form_times (negsuc 0) (form_of f)) ≡ false) → IsFormAnswer fixed old (Neg at e) r
neg_formed fixed old at e f (Ok g) h v b =
    let seen : form_of g ≡ form_times (negsuc 0) (form fixed old e) = v ∙ ap (form_times (negsuc 0)) h.seen in
    record { seen = seen; fit = and_from (forms_fit fixed old e) (form_fits (form_times (negsuc 0) (form fixed old e))) h.fit (fits_as g (form_times (negsuc 0) (form fixed old e)) seen) }
neg_formed fixed old at e f (Err x) h v b = λ t.
    right_fails (forms_fit fixed old e) (form_fits (form_times (negsuc 0) (form fixed old e)))
    (ap (λ (a : Form). form_fits (form_times (negsuc 0) a)) (sym h.seen) ∙ b (ap Err t))

pub combined_formed : (fixed : Column → Bool) (old : Bool) (at : Span) (op : Op) (a b : TypedExpression) (f g : code.Form) (r : Result code.Form AffineFault) → IsForm fixed old a f → IsForm fixed old b g →
    IfOk r (λ s. form_of s ≡ operation op (form_of f) (form_of g)) → (r ≡ Err affine.TooBig → form_fits (operation op (form_of f) (form_of g)) ≡ false) →
    IsFormAnswer fixed old (Bin at op a b) r
combined_formed fixed old at op a b f g (Ok s) h k v t =
    let seen : form_of s ≡ operation op (form fixed old a) (form fixed old b) = v ∙ (λ i. operation op (h.seen i) (k.seen i)) in
    record {
      seen = seen;
      fit = and_from (forms_fit fixed old a) (forms_fit fixed old b && form_fits (operation op (form fixed old a) (form fixed old b))) h.fit
          (and_from (forms_fit fixed old b) (form_fits (operation op (form fixed old a) (form fixed old b))) k.fit (fits_as s (operation op (form fixed old a) (form fixed old b)) seen));
    }
combined_formed fixed old at op a b f g (Err x) h k v t = λ big.
    right_fails (forms_fit fixed old a) (forms_fit fixed old b && form_fits (operation op (form fixed old a) (form fixed old b)))
    (right_fails (forms_fit fixed old b) (form_fits (operation op (form fixed old a) (form fixed old b)))
    ((λ i. form_fits (operation op (sym h.seen i) (sym k.seen i))) ∙ t (ap Err big)))
