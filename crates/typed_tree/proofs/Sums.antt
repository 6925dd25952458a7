-- Forms of which a part does not fit, and numbers of two lists that fit.
use Rattle.std.proofs.Common.{◌≡◌, Bool, true, false, ◌&&◌, ℤ, List, ◌++◌, refl, ap, ◌∙◌}
use Rattle.std.specs.List.{list_all}
use Rattle.std.proofs.lemmas.Bool.{and_from}
use Rattle.std.proofs.lemmas.List.Folds.{list_all-append}
use Rattle.typed_tree.specs.AffineForm.{Form, form_fits, fits}
use Rattle.typed_tree.specs.Ties.FormOrder.{terms_fit}

first_fails : (x y : Bool) → x ≡ false → (x && y) ≡ false
first_fails x y h = ap (λ (b : Bool). b && y) h

second_fails : (x y : Bool) → y ≡ false → (x && y) ≡ false
second_fails true y h = h
second_fails false y h = refl

pub terms_big : (f : Form) → terms_fit f.terms ≡ false → form_fits f ≡ false
terms_big f h = first_fails (terms_fit f.terms) (list_all fits f.quotients && fits f.constant) h

pub quotients_big : (f : Form) → list_all fits f.quotients ≡ false → form_fits f ≡ false
quotients_big f h = second_fails (terms_fit f.terms) (list_all fits f.quotients && fits f.constant) (first_fails (list_all fits f.quotients) (fits f.constant) h)

pub constant_big : (f : Form) → fits f.constant ≡ false → form_fits f ≡ false
constant_big f h = second_fails (terms_fit f.terms) (list_all fits f.quotients && fits f.constant) (second_fails (list_all fits f.quotients) (fits f.constant) h)

pub joined_fit : (xs ys : List ℤ) → list_all fits xs ≡ true → list_all fits ys ≡ true → list_all fits (xs ++ ys) ≡ true
joined_fit xs ys h k = list_all-append fits xs ys ∙ and_from (list_all fits xs) (list_all fits ys) h k
