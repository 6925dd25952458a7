-- Forms whose numbers are all multiplied.
use Rattle.std.proofs.Common.{◌≡◌, ℕ, ◌+◌, ◌*◌, ◌<◌, ◌^◌, Bool, true, false, ◌&&◌, ℤ, pos, negsuc, ◌*ℤ◌, unsigned_abs, List, [], ◌∷◌, ◌++◌, map, take, length, get_or, ap, refl, sym, ◌∙◌, arith}
use Rattle.std.specs.List.{list_all}
use Rattle.std.proofs.lemmas.Bool.{and_parts, and_from, both_ways, ltb-true, lt-ltb}
use Rattle.std.proofs.lemmas.Int.{unsigned_abs-mul}
use Rattle.std.proofs.lemmas.List.{take_more, map-append}
use Rattle.std.proofs.lemmas.List.Folds.{list_all-append, list_all-map, list_all_at}
use Rattle.boogie_tree.specs.declared.tree.Column.{Column}
use Rattle.typed_tree.specs.AffineForm.{Form, is_before, fits, form_fits, form_scaled}
use Rattle.typed_tree.specs.Ties.FormOrder.{stands_before, ascends, terms_fit}
use Rattle.typed_tree.specs.Ties.Merging.{AreTerms}

-- the first elements of a list, each changed, and each passing
pub record IsChanged {X : Type 0} (f : X → X) (p : X → Bool) (xs : List X) (i : ℕ) (out : List X) : Type 0 where
  pub value : out ≡ map f (take i xs)
  pub fit : list_all p out ≡ true

pub changed_more : {X : Type 0} (f : X → X) (p : X → Bool) (xs : List X) (i : ℕ) (d z : X) (out next : List X) → i < length xs → IsChanged f p xs i out →
    z ≡ f (get_or xs i d) → p (f (get_or xs i d)) ≡ true → next ≡ out ++ z ∷ [] → IsChanged f p xs (i + 1) next
changed_more f p xs i d z out next l h e k n = record {
  value = rw (n, h.value, e, take_more xs i d l, map-append f (take i xs) (get_or xs i d ∷ [])) refl;
  fit = rw (n, list_all-append p out (z ∷ []), h.fit, e, k) refl;
}

pub changed_fails : {X : Type 0} (f : X → X) (p : X → Bool) (xs : List X) (i : ℕ) (d : X) → i < length xs → p (f (get_or xs i d)) ≡ false → list_all p (map f xs) ≡ false
changed_fails f p xs i d l k = list_all-map p f xs ∙ list_all_at (λ x. p (f x)) xs i d l k

-- the columns stay
stands_before-scaled : (c : Column) (m : ℤ) (ts : List (Column × ℤ)) → stands_before c (map (λ t. (t.0, m *ℤ t.1)) ts) ≡ stands_before c ts
stands_before-scaled c m [] = refl
stands_before-scaled c m (t ∷ ts) = ap (λ (b : Bool). is_before c t.0 && b) (stands_before-scaled c m ts)

ascends-scaled : (m : ℤ) (ts : List (Column × ℤ)) → ascends (map (λ t. (t.0, m *ℤ t.1)) ts) ≡ ascends ts
ascends-scaled m [] = refl
ascends-scaled m (t ∷ ts) = rw (stands_before-scaled t.0 m ts, ascends-scaled m ts) refl

pub scaled_valid : (m : ℤ) (ts out : List (Column × ℤ)) → AreTerms ts → out ≡ map (λ t. (t.0, m *ℤ t.1)) ts → terms_fit out ≡ true → AreTerms out
scaled_valid m ts out h e f = record { in_order = ap ascends e ∙ ascends-scaled m ts ∙ h.in_order; fit = f }

-- ---- the opposite of a form fits where the form does

opposite_fits : (z : ℤ) → fits z ≡ true → fits (negsuc 0 *ℤ z) ≡ true
opposite_fits z h =
    let e : unsigned_abs (negsuc 0 *ℤ z) ≡ 1 * unsigned_abs z = unsigned_abs-mul (negsuc 0) z in
    lt-ltb (unsigned_abs (negsuc 0 *ℤ z)) (2 ^ 127) (omega (arith, e, ltb-true (unsigned_abs z) (2 ^ 127) h))

opposite_all : {X : Type 0} (n : X → ℤ) (xs : List X) → list_all (λ x. fits (n x)) xs ≡ true → list_all (λ x. fits (negsuc 0 *ℤ n x)) xs ≡ true
opposite_all n [] h = refl
opposite_all n (x ∷ xs) h =
    let p = and_parts (fits (n x)) (list_all (λ x. fits (n x)) xs) h in
    and_from (fits (negsuc 0 *ℤ n x)) (list_all (λ x. fits (negsuc 0 *ℤ n x)) xs) (opposite_fits (n x) p.0) (opposite_all n xs p.1)

opposite_form : (b : Form) → terms_fit b.terms ≡ true → list_all fits b.quotients ≡ true → fits b.constant ≡ true → form_fits (form_scaled (negsuc 0) b) ≡ true
opposite_form b h k l =
    let e : terms_fit (map (λ t. (t.0, negsuc 0 *ℤ t.1)) b.terms) ≡ true = list_all-map (λ (t : Column × ℤ). fits t.1) (λ t. (t.0, negsuc 0 *ℤ t.1)) b.terms ∙ opposite_all (λ t. t.1) b.terms h in
    let f : list_all fits (map (λ q. negsuc 0 *ℤ q) b.quotients) ≡ true = list_all-map fits (λ q. negsuc 0 *ℤ q) b.quotients ∙ opposite_all (λ q. q) b.quotients k in
    rw (e, f, opposite_fits b.constant l) refl

pub opposite_is_small : {P : Type 0} (b : Form) → terms_fit b.terms ≡ true → list_all fits b.quotients ≡ true → fits b.constant ≡ true → form_fits (form_scaled (negsuc 0) b) ≡ false → P
opposite_is_small b h k l w = absurd (both_ways (form_fits (form_scaled (negsuc 0) b)) w (opposite_form b h k l))
