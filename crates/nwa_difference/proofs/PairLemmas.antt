-- Keys that are added to what a search has found.
use Rattle.std.proofs.Common.{◌≡◌, ◌∙◌, ◌⊎◌, ℕ, List, [], ◌∷◌, ◌++◌, Option, None, Some, Bool, true, false, cond, not, refl, sym, ap, subst, inl, inr, eqb, eq-eqb, ◌&&◌, append-nil}
use Rattle.std.specs.List.{list_any}
use Rattle.std.specs.Option.{option_eq}
use Rattle.std.proofs.lemmas.Bool.{false≢true, eqb-true}
use Rattle.indexmap.specs.IndexSet.{insert_key}
use Rattle.nwa_base.specs.Members.{Member}
use Rattle.nwa_base.proofs.LetterLemmas.{and_left, and_right, and_both}
use Rattle.nwa_base.proofs.MemberLemmas.{member_front, member_rest, member_split, member_any, any_member}
use Rattle.nwa_difference.specs.Ties.Stages.{Adds, AddsAt, Tells}

-- a test that tells equal ones
pub record IsTest {X : Type 0} (eq : X → X → Bool) : Type 0 where
  pub there : (x y : X) → eq x y ≡ true → x ≡ y
  pub back : (x y : X) → x ≡ y → eq x y ≡ true

same_entry : (a b : Option ℕ) → option_eq eqb a b ≡ true → a ≡ b
same_entry None None e = refl
same_entry None (Some y) e = let f : false ≡ true = e in cc
same_entry (Some x) None e = let f : false ≡ true = e in cc
same_entry (Some x) (Some y) e = ap (λ (z : ℕ). Some z) (eqb-true x y e)

entry_same : (a : Option ℕ) → option_eq eqb a a ≡ true
entry_same None = refl
entry_same (Some x) = eq-eqb x x refl

pub test_numbers : IsTest eqb
test_numbers = record { there = eqb-true; back = eq-eqb }

pub test_pairs : IsTest (λ (x y : ℕ × ℕ). eqb x.0 y.0 && eqb x.1 y.1)
test_pairs = record {
  there = λ x y h.
      let i : x.0 ≡ y.0 = eqb-true _ _ (and_left _ _ h) in
      let j : x.1 ≡ y.1 = eqb-true _ _ (and_right _ _ h) in
      λ n. (i n, j n);
  back = λ x y e. and_both _ _ (eq-eqb x.0 y.0 (ap (λ (z : ℕ × ℕ). z.0) e)) (eq-eqb x.1 y.1 (ap (λ (z : ℕ × ℕ). z.1) e));
}

pub test_entries : IsTest (λ (x y : Option ℕ × ℕ). option_eq eqb x.0 y.0 && eqb x.1 y.1)
test_entries = record {
  there = λ x y h.
      let i : x.0 ≡ y.0 = same_entry _ _ (and_left _ _ h) in
      let j : x.1 ≡ y.1 = eqb-true _ _ (and_right _ _ h) in
      λ n. (i n, j n);
  back = λ x y e.
      and_both _ _ (subst (λ (z : Option ℕ). option_eq eqb x.0 z ≡ true) (ap (λ (z : Option ℕ × ℕ). z.0) e) (entry_same x.0))
      (eq-eqb x.1 y.1 (ap (λ (z : Option ℕ × ℕ). z.1) e));
}

stands : {X : Type 0} (eq : X → X → Bool) (old : List X) (x : X) → IsTest eq → list_any (eq x) old ≡ true → Member old x
stands {X} eq old x t e = any_member (λ (y z : X). eq z y) old x (λ y h. sym (t.there x y h)) e

stands_not : {X : Type 0} (eq : X → X → Bool) (old : List X) (x : X) → IsTest eq → list_any (eq x) old ≡ false → Member old x → ⊥
stands_not {X} eq old x t e m = false≢true (sym e ∙ member_any (λ (y z : X). eq z y) old x (λ y h. t.back x y (sym h)) m)

only_one : {X : Type 0} (old : List X) (x y : X) → Member (old ++ x ∷ []) y → Member old y ⊎ (x ≡ y)
only_one old x y m = elim (member_split old (x ∷ []) y m) [ inl a ↦ inl a | inr b ↦ elim b [ inl e ↦ inr e | inr n ↦ absurd n ] ]

adds_by : {X : Type 0} (old new : List X) (x : X) (b : Bool) → (b ≡ true → Member old x) → new ≡ cond b old (old ++ x ∷ []) → Adds old new x
adds_by {X} old new x true h e =
    subst (λ (l : List X). Adds old l x) (sym e) (record { more = []; list = sym (append-nil old); there = h refl; only = λ y m. inl m })
adds_by {X} old new x false h e =
    subst (λ (l : List X). Adds old l x) (sym e)
    (record { more = x ∷ []; list = refl; there = member_rest old (x ∷ []) x (inl refl); only = only_one old x })

-- a key is put into a set
pub key_added : {X : Type 0} (eq : X → X → Bool) (old new : List X) (x : X) → IsTest eq → new ≡ insert_key eq old x → Adds old new x
key_added eq old new x t e = adds_by old new x (list_any (eq x) old) (stands eq old x t) e

tells_by : {X : Type 0} (old : List X) (x : X) (is_new b : Bool) → (b ≡ true → Member old x) → (b ≡ false → Member old x → ⊥) → is_new ≡ not b → Tells old x is_new
tells_by old x is_new true h g e = record { fresh = λ f. absurd (false≢true (sym e ∙ f)); known = λ f. h refl }
tells_by old x is_new false h g e = record { fresh = λ f. g refl; known = λ f. absurd (false≢true (sym f ∙ e)) }

pub key_told : {X : Type 0} (eq : X → X → Bool) (old : List X) (x : X) (is_new : Bool) → IsTest eq → is_new ≡ not (list_any (eq x) old) → Tells old x is_new
key_told eq old x is_new t e = tells_by old x is_new (list_any (eq x) old) (stands eq old x t) (stands_not eq old x t) e

-- what is kept in groups after one value more
abbrev GrowsAt : {V : Type 0} → ℕ → V → (ℕ → List V) → (ℕ → List V) → Type 0
GrowsAt key value old new = (k : ℕ) → new k ≡ cond (eqb key k) (old k ++ value ∷ []) (old k)

grown_front : {V : Type 0} (old : List V) (v y : V) (b : Bool) → Member old y → Member (cond b (old ++ v ∷ []) old) y
grown_front old v y true h = member_front old (v ∷ []) y h
grown_front old v y false h = h

grown_last : {V : Type 0} (old : List V) (v : V) (b : Bool) → b ≡ true → Member (cond b (old ++ v ∷ []) old) v
grown_last old v true e = member_rest old (v ∷ []) v (inl refl)
grown_last old v false e = absurd (false≢true e)

grown_split : {V : Type 0} (old : List V) (v y : V) (b : Bool) → Member (cond b (old ++ v ∷ []) old) y → Member old y ⊎ ((b ≡ true) × (v ≡ y))
grown_split old v y true h = elim (only_one old v y h) [ inl g ↦ inl g | inr e ↦ inr (refl, e) ]
grown_split old v y false h = inl h

-- a value is put into the group of a key
pub value_added : {V : Type 0} (key : ℕ) (v : V) (old new : ℕ → List V) → GrowsAt key v old new → AddsAt old new key v
value_added {V} key v old new g = record {
  there = subst (λ (l : List V). Member l v) (sym (g key)) (grown_last (old key) v (eqb key key) (eq-eqb key key refl));
  stays = λ k y h. subst (λ (l : List V). Member l y) (sym (g k)) (grown_front (old k) v y (eqb key k) h);
  only = λ k y h.
      elim (grown_split (old k) v y (eqb key k) (subst (λ (l : List V). Member l y) (g k) h)) [
        | inl m ↦ inl m
        | inr e ↦ inr (eqb-true key k e.0, e.1)
      ];
}
