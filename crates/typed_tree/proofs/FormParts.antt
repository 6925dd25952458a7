-- The forms of affine expressions have no quotients.
use Rattle.std.proofs.Common.{◌≡◌, Bool, true, false, ◌&&◌, ◌||◌, ℤ, negsuc, pos, List, [], ◌++◌, ◌*ℤ◌, map, Result, Ok, Err, IfOk, if◌then◌else◌, refl, ap, sym, ◌∙◌}
use Rattle.std.specs.List.{list_all}
use Rattle.std.proofs.lemmas.Bool.{and_parts, and_from, and_left, and_right, false≢true}
use Rattle.boogie_tree.specs.declared.span.Span.{Span}
use Rattle.boogie_tree.specs.declared.tree.Op.{Op}
use Rattle.boogie_tree.specs.declared.tree.Op.TheVariants.{Iff, Implies, And, Or, Eq, Ne, Lt, Le, Gt, Ge, Add, Sub, Mul, Div, Mod}
use Rattle.boogie_tree.specs.declared.tree.Column.{Column}
use Rattle.typed_tree.specs.declared.form.Form as code
use Rattle.typed_tree.specs.declared.fault.AffineFault.{AffineFault}
use Rattle.typed_tree.specs.declared.fault.AffineFault.TheVariants as affine
use Rattle.typed_tree.specs.TypedTree.{TypedExpression, Lit, Truth, Var, Old, Not, Neg, Bin}
use Rattle.typed_tree.specs.AffineForm.{Form, form, is_linear, is_linear_operation, forms_fit, form_fits, fits, form_times, form_scaled, form_number, form_plus, form_quotient, product, operation, form_is_zero, is_constant, is_affine, is_affine_operator}
use Rattle.typed_tree.specs.Ties.FormOrder.{terms_fit}
use Rattle.typed_tree.specs.Scope.{is_constant_column}
use Rattle.typed_tree.specs.Ties.FormView.{form_of, IsForm, IsFormAnswer}
use Rattle.typed_tree.proofs.FormValues.{factor_of}

-- ---- no quotient stands in an affine form

times_plain : (m : ℤ) (b : Form) → b.quotients ≡ [] → (form_times m b).quotients ≡ []
times_plain m b h = by_test (form_is_zero m)
  where
    by_test : (z : Bool) → (if z then form_number (pos 0) else form_scaled m b).quotients ≡ []
    by_test true = refl
    by_test false = ap (map (λ q. m *ℤ q)) h

product_plain : (a b : Form) → (is_constant a || is_constant b) ≡ true → a.quotients ≡ [] → b.quotients ≡ [] → (product a b).quotients ≡ []
product_plain a b c h k = by_tests (is_constant a) (is_constant b) c
  where
    by_tests : (x y : Bool) → (x || y) ≡ true → (if x then form_times a.constant b else (if y then form_times b.constant a else form_quotient)).quotients ≡ []
    by_tests true y e = times_plain a.constant b k
    by_tests false true e = times_plain b.constant a h
    by_tests false false e = absurd (false≢true e)

operation_plain : (op : Op) (a b : Form) → is_affine_operator op ≡ true → (op ≡ Mul → (is_constant a || is_constant b) ≡ true) → a.quotients ≡ [] → b.quotients ≡ [] → (operation op a b).quotients ≡ []
operation_plain Add a b e c h k = rw (h, k) refl
operation_plain Sub a b e c h k = rw (h, times_plain (negsuc 0) b k) refl
operation_plain Mul a b e c h k = product_plain a b (c refl) h k
operation_plain Div a b e c h k = absurd (false≢true e)
operation_plain Mod a b e c h k = absurd (false≢true e)
operation_plain Iff a b e c h k = refl
operation_plain Implies a b e c h k = refl
operation_plain And a b e c h k = refl
operation_plain Or a b e c h k = refl
operation_plain Eq a b e c h k = refl
operation_plain Ne a b e c h k = refl
operation_plain Lt a b e c h k = refl
operation_plain Le a b e c h k = refl
operation_plain Gt a b e c h k = refl
operation_plain Ge a b e c h k = refl

pub affine_plain : (g : Column → Bool) (old : Bool) (e : TypedExpression) → is_affine e ≡ true → is_linear g old e ≡ true → (form g old e).quotients ≡ []
affine_plain g old (Lit at n) h l = refl
affine_plain g old (Truth at b) h l = refl
affine_plain g old (Var at c) h l = refl
affine_plain g old (Old at e) h l = affine_plain g true e h l
affine_plain g old (Not at e) h l = refl
affine_plain g old (Neg at e) h l = times_plain (negsuc 0) (form g old e) (affine_plain g old e h l)
affine_plain g old (Bin at op a b) h l =
    let p = and_parts (is_affine_operator op) (is_affine a && is_affine b) h in
    let q = and_parts (is_affine a) (is_affine b) p.1 in
    let m = and_parts (is_linear g old a) (is_linear g old b && is_linear_operation g old op a b) l in
    let n = and_parts (is_linear g old b) (is_linear_operation g old op a b) m.1 in
    operation_plain op (form g old a) (form g old b) p.0 (factor_of g old op a b n.1) (affine_plain g old a q.0 m.0) (affine_plain g old b q.1 n.0)

pub affine_form : (e : TypedExpression) (f : code.Form) → is_affine e ≡ true → is_linear (is_constant_column []) false e ≡ true → IsForm (is_constant_column []) false e f →
    ◌≡◌ {A = Form} (form (is_constant_column []) false e) (record { terms = f.terms.items; quotients = []; constant = f.constant })
affine_form e f h l k =
    let q : f.quotients.items ≡ [] = ap (λ (a : Form). a.quotients) k.seen ∙ affine_plain (is_constant_column []) false e h l in
    sym k.seen ∙ (λ i. record { terms = f.terms.items; quotients = q i; constant = f.constant })
