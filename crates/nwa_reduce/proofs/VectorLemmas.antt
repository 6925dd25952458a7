-- Lists of numbers that are kept as vectors in a set.
use Rattle.std.proofs.Common.{◌≡◌, ◌∙◌, ◌<◌, ℕ, zero, suc, Bool, true, false, cond, not, ◌||◌, List, [], ◌∷◌, ◌++◌, None, Some, length, get_or, slice_get, eqb, eq-eqb, refl, sym, ap, subst, inl, inr}
use Rattle.std.proofs.lemmas.Bool.{eqb-true, false≢true}
use Rattle.std.specs.Global.{Vec}
use Rattle.std.specs.List.{list_any}
use Rattle.std.proofs.lemmas.List.{map-append}
use Rattle.std.proofs.lemmas.Slice.Eq.{slice_eq-Decides}
use lib.Pointwise.{pointwise}
use Rattle.nwa_base.specs.Members.{Member}
use Rattle.nwa_reduce.specs.Ties.Classes.{lists_of}
use Rattle.nwa_reduce.proofs.ListLemmas.{get_push, get_at, member_get}

-- the test of vectors
abbrev pub vector_test : Vec ℕ → Vec ℕ → Bool
vector_test v k = pointwise eqb v.items k.items

same_items : (xs ys : List ℕ) → pointwise eqb xs ys ≡ true → xs ≡ ys
same_items xs ys e = (slice_eq-Decides {E = eqb} (λ a b. (λ h. eqb-true a b h, λ h. eq-eqb a b h)) xs ys _ refl).0 e

items_pass : (xs ys : List ℕ) → xs ≡ ys → pointwise eqb xs ys ≡ true
items_pass xs ys e = (slice_eq-Decides {E = eqb} (λ a b. (λ h. eqb-true a b h, λ h. eq-eqb a b h)) xs ys _ refl).1 e

pub lists_get : (keys : List (Vec ℕ)) (i : ℕ) (k : Vec ℕ) → slice_get keys i ≡ Some k → slice_get (lists_of keys) i ≡ Some k.items
lists_get [] i k e = let f : None ≡ Some k = e in cc
lists_get (v ∷ keys) zero k e = let f : Some v ≡ Some k = e in let g : v ≡ k = cc in ap (λ (z : Vec ℕ). Some z.items) g
lists_get (v ∷ keys) (suc i) k e = lists_get keys i k e

or_left_false : (a b : Bool) → a || b ≡ false → a ≡ false
or_left_false true b e = let f : true ≡ false = e in cc
or_left_false false b e = refl

or_right_false : (a b : Bool) → a || b ≡ false → b ≡ false
or_right_false true b e = let f : true ≡ false = e in cc
or_right_false false b e = e

not_among : (v : Vec ℕ) (keys : List (Vec ℕ)) → list_any (vector_test v) keys ≡ false → Member (lists_of keys) v.items → ⊥
not_among v [] e h = h
not_among v (k ∷ keys) e (inl q) = false≢true (sym (or_left_false _ _ e) ∙ items_pass v.items k.items (sym q))
not_among v (k ∷ keys) e (inr h) = not_among v keys (or_right_false _ _ e) h

-- what an insertion did, by its flag
was_there : (b flag : Bool) (keys new : List (Vec ℕ)) (v : Vec ℕ) → flag ≡ not b → new ≡ cond b keys (keys ++ v ∷ []) → flag ≡ false → new ≡ keys
was_there true flag keys new v f e g = e
was_there false flag keys new v f e g = let h : true ≡ false = sym f ∙ g in cc

was_new : (b flag : Bool) (keys new : List (Vec ℕ)) (v : Vec ℕ) → flag ≡ not b → new ≡ cond b keys (keys ++ v ∷ []) → flag ≡ true →
    (b ≡ false) × (new ≡ keys ++ v ∷ [])
was_new true flag keys new v f e g = let h : false ≡ true = sym f ∙ g in cc
was_new false flag keys new v f e g = (refl, e)

-- the list was there
pub list_there : (flag : Bool) (keys new : List (Vec ℕ)) (v k : Vec ℕ) (i : ℕ) → flag ≡ not (list_any (vector_test v) keys) →
    new ≡ cond (list_any (vector_test v) keys) keys (keys ++ v ∷ []) → flag ≡ false → slice_get new i ≡ Some k → vector_test v k ≡ true →
    (lists_of new ≡ lists_of keys) × (slice_get (lists_of keys) i ≡ Some v.items)
list_there flag keys new v k i f e g s t =
    let w = was_there (list_any (vector_test v) keys) flag keys new v f e g in (
      ap lists_of w,
      lists_get keys i k (subst (λ (l : List (Vec ℕ)). slice_get l i ≡ Some k) w s) ∙ ap (λ (z : List ℕ). Some z) (sym (same_items v.items k.items t)),
    )

last_place : (lists : List (List ℕ)) (x : List ℕ) (i : ℕ) → (Member lists x → ⊥) → slice_get (lists ++ x ∷ []) i ≡ Some x → i ≡ length lists
last_place lists x i n g = elim (get_push lists x i x g) [ inl o ↦ absurd (n (member_get lists i x o)) | inr o ↦ o.0 ]

-- the list is new
pub list_new : (flag : Bool) (keys new : List (Vec ℕ)) (v k : Vec ℕ) (i : ℕ) → flag ≡ not (list_any (vector_test v) keys) →
    new ≡ cond (list_any (vector_test v) keys) keys (keys ++ v ∷ []) → flag ≡ true → slice_get new i ≡ Some k → vector_test v k ≡ true →
    (lists_of new ≡ lists_of keys ++ v.items ∷ []) × (Member (lists_of keys) v.items → ⊥) × (i ≡ length (lists_of keys))
list_new flag keys new v k i f e g s t =
    let w = was_new (list_any (vector_test v) keys) flag keys new v f e g in
    let n = not_among v keys w.0 in
    let l : lists_of new ≡ lists_of keys ++ v.items ∷ [] = ap lists_of w.1 ∙ map-append (λ (z : Vec ℕ). z.items) keys (v ∷ []) in
    let p : slice_get (lists_of new) i ≡ Some v.items = lists_get new i k s ∙ ap (λ (z : List ℕ). Some z) (sym (same_items v.items k.items t)) in
    (l, n, last_place (lists_of keys) v.items i n (subst (λ (z : List (List ℕ)). slice_get z i ≡ Some v.items) l p))

-- what an index reads
pub read_at : (xs : List ℕ) (i x : ℕ) → i < length xs → x ≡ get_or xs i x → slice_get xs i ≡ Some x
read_at xs i x l e = get_at xs i x l ∙ ap (λ (z : ℕ). Some z) (sym e)
