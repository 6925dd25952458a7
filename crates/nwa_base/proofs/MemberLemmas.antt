-- Members of lists.
use Rattle.std.proofs.Common.{◌≡◌, ◌↔◌, ◌∙◌, ◌&&◌, ℕ, zero, suc, ◌<◌, ◌≤◌, ◌+◌, drop, add-one, Bool, true, false, cond, eqb, ◌||◌, length, get_or, arith, List, [], ◌∷◌, ◌++◌, ◌⊎◌, refl, sym, ap, subst, inl, inr, eq-eqb}
use Rattle.std.proofs.lemmas.Bool.{false≢true, eqb-true}
use Rattle.std.proofs.lemmas.List.{drop_all}
use Rattle.std.proofs.Math.Seq.{drop-cons}
use Rattle.std.specs.Prelude.{map, filter}
use Rattle.std.specs.List.{list_any}
use Rattle.nwa_base.proofs.LetterLemmas.{and_left, and_right, and_both}
use Rattle.nwa_base.specs.Members.{Member, IsSetOf}

pub member_front : {X : Type 0} (xs ys : List X) (x : X) → Member xs x → Member (xs ++ ys) x
member_front [] ys x h = absurd h
member_front (z ∷ xs) ys x (inl e) = inl e
member_front (z ∷ xs) ys x (inr h) = inr (member_front xs ys x h)

pub member_rest : {X : Type 0} (xs ys : List X) (x : X) → Member ys x → Member (xs ++ ys) x
member_rest [] ys x h = h
member_rest (z ∷ xs) ys x h = inr (member_rest xs ys x h)

pub member_split : {X : Type 0} (xs ys : List X) (x : X) → Member (xs ++ ys) x → Member xs x ⊎ Member ys x
member_split [] ys x h = inr h
member_split (z ∷ xs) ys x (inl e) = inl (inl e)
member_split (z ∷ xs) ys x (inr h) = elim (member_split xs ys x h) [ inl k ↦ inl (inr k) | inr k ↦ inr k ]

-- a mapped member
pub member_map : {X Y : Type 0} (f : X → Y) (xs : List X) (x : X) → Member xs x → Member (map f xs) (f x)
member_map f [] x h = absurd h
member_map f (z ∷ xs) x (inl e) = inl (ap f e)
member_map f (z ∷ xs) x (inr h) = inr (member_map f xs x h)

-- what a mapped member comes from
pub member_from_map : {X Y : Type 0} (f : X → Y) (xs : List X) (y : Y) → Member (map f xs) y → (x : X) × Member xs x × (f x ≡ y)
member_from_map f [] y h = absurd h
member_from_map f (z ∷ xs) y (inl e) = (z, inl refl, e)
member_from_map f (z ∷ xs) y (inr h) = let r = member_from_map f xs y h in (r.0, inr r.1, r.2)

filter_keeps : {X : Type 0} (z x : X) (kept : List X) (b : Bool) → Member kept x → Member (cond b (z ∷ kept) kept) x
filter_keeps z x kept true h = inr h
filter_keeps z x kept false h = h

filter_gave : {X : Type 0} (p : X → Bool) (z x : X) (kept : List X) (b : Bool) → p z ≡ b → Member (cond b (z ∷ kept) kept) x →
    ((z ≡ x) × (p x ≡ true)) ⊎ Member kept x
filter_gave p z x kept true e (inl h) = inl (h, ap p (sym h) ∙ e)
filter_gave p z x kept true e (inr h) = inr h
filter_gave p z x kept false e h = inr h

-- members that pass a test
pub member_filter : {X : Type 0} (p : X → Bool) (xs : List X) (x : X) → Member xs x → p x ≡ true → Member (filter p xs) x
member_filter p [] x h t = absurd h
member_filter p (z ∷ xs) x (inl e) t = subst (λ (b : Bool). Member (cond b (z ∷ filter p xs) (filter p xs)) x) (sym (ap p e ∙ t)) (inl e)
member_filter p (z ∷ xs) x (inr h) t = filter_keeps z x (filter p xs) (p z) (member_filter p xs x h t)

pub filter_member : {X : Type 0} (p : X → Bool) (xs : List X) (x : X) → Member (filter p xs) x → Member xs x × (p x ≡ true)
filter_member p [] x h = absurd h
filter_member p (z ∷ xs) x h =
    elim (filter_gave p z x (filter p xs) (p z) refl h) [
      | inl k ↦ (inl k.0, k.1)
      | inr k ↦ let r = filter_member p xs x k in (inr r.0, r.1)
    ]

or_left : (a b : Bool) → a ≡ true → a || b ≡ true
or_left a b e = ap (λ x. x || b) e

or_right : (a b : Bool) → b ≡ true → a || b ≡ true
or_right true b e = refl
or_right false b e = e

or_either : (a b : Bool) → a || b ≡ true → (a ≡ true) ⊎ (b ≡ true)
or_either true b e = inl refl
or_either false b e = inr e

-- a test for members, by a test that tells equal ones
pub member_any : {X : Type 0} (test : X → X → Bool) (xs : List X) (x : X) → ((y : X) → y ≡ x → test y x ≡ true) →
    Member xs x → list_any (λ y. test y x) xs ≡ true
member_any test [] x t h = absurd h
member_any test (y ∷ xs) x t (inl e) = or_left (test y x) (list_any (λ z. test z x) xs) (t y e)
member_any test (y ∷ xs) x t (inr h) = or_right (test y x) (list_any (λ z. test z x) xs) (member_any test xs x t h)

pub any_member : {X : Type 0} (test : X → X → Bool) (xs : List X) (x : X) → ((y : X) → test y x ≡ true → y ≡ x) →
    list_any (λ y. test y x) xs ≡ true → Member xs x
any_member test [] x t h = absurd (false≢true h)
any_member test (y ∷ xs) x t h =
    elim (or_either (test y x) (list_any (λ z. test z x) xs) h) [ inl e ↦ inl (t y e) | inr k ↦ inr (any_member test xs x t k) ]

-- the test of numbers
pub any_number : (xs : List ℕ) (q : ℕ) (b : Bool) → b ≡ list_any (λ y. eqb y q) xs → (b ≡ true) ↔ Member xs q
any_number xs q b e = (
  λ h. any_member eqb xs q (λ y. eqb-true y q) (sym e ∙ h),
  λ h. e ∙ member_any eqb xs q (λ y. eq-eqb y q) h,
)

-- the test of pairs
pub same_pair : (x y : ℕ × ℕ) → eqb x.0 y.0 && eqb x.1 y.1 ≡ true → x ≡ y
same_pair x y h =
    let i : x.0 ≡ y.0 = eqb-true _ _ (and_left _ _ h) in
    let j : x.1 ≡ y.1 = eqb-true _ _ (and_right _ _ h) in
    λ n. (i n, j n)

pub any_pair : (xs : List (ℕ × ℕ)) (x : ℕ × ℕ) (b : Bool) → b ≡ list_any (λ y. eqb y.0 x.0 && eqb y.1 x.1) xs → (b ≡ true) ↔ Member xs x
any_pair xs x b e = (
  λ h. any_member (λ (y z : ℕ × ℕ). eqb y.0 z.0 && eqb y.1 z.1) xs x (λ y. same_pair y x) (sym e ∙ h),
  λ h. e ∙ member_any (λ (y z : ℕ × ℕ). eqb y.0 z.0 && eqb y.1 z.1) xs x
      (λ y i. and_both _ _ (eq-eqb y.0 x.0 (ap (λ (z : ℕ × ℕ). z.0) i)) (eq-eqb y.1 x.1 (ap (λ (z : ℕ × ℕ). z.1) i))) h,
)

-- what stands at a place is a member
pub member_at : {X : Type 0} (xs : List X) (i : ℕ) (d : X) → i < length xs → Member xs (get_or xs i d)
member_at [] i d l = absurd (omega arith)
member_at (x ∷ xs) zero d l = inl refl
member_at (x ∷ xs) (suc i) d l = inr (member_at xs i d (omega arith))

found_rest : {X : Type 0} (P : X → Type 0) (y : X) (rest : List X) (x : X) → Member (y ∷ rest) x → P x → (P y → ⊥) →
    (z : X) × Member rest z × P z
found_rest P y rest x (inl e) h n = absurd (n (subst P (sym e) h))
found_rest P y rest x (inr m) h n = (x, m, h)

-- what is sought among the rest of a list, and is not here, is later
pub found_later : {X : Type 0} (P : X → Type 0) (xs : List X) (i : ℕ) (d : X) → i < length xs →
    (x : X) × Member (drop i xs) x × P x → (P (get_or xs i d) → ⊥) → (x : X) × Member (drop (i + 1) xs) x × P x
found_later {X} P xs i d l h n =
    let front : drop i xs ≡ get_or xs i d ∷ drop (i + 1) xs = rw add-one (drop-cons xs i d l) in
    found_rest P (get_or xs i d) (drop (i + 1) xs) h.0 (subst (λ (r : List X). Member r h.0) front h.1) h.2 n

pub found_nowhere : {X : Type 0} (P : X → Type 0) (xs : List X) (i : ℕ) → length xs ≤ i → (x : X) × Member (drop i xs) x × P x → ⊥
found_nowhere {X} P xs i l h = subst (λ (r : List X). Member r h.0) (drop_all i xs l) h.1

-- a pair at a place, by its parts
pub pair_at : (s : List (ℕ × ℕ)) (i : ℕ) (d : ℕ × ℕ) (k q : ℕ) → i < length s → (get_or s i d).0 ≡ k → (get_or s i d).1 ≡ q → Member s (k, q)
pair_at s i d k q l e f = subst (Member s) (λ n. (e n, f n)) (member_at s i d l)

cond_later : (b c : Bool) → c ≡ true → cond b true c ≡ true
cond_later true c e = refl
cond_later false c e = e

cond_here : (b c : Bool) → b ≡ true → cond b true c ≡ true
cond_here b c e = ap (λ x. cond x true c) e

cond_either : (b c : Bool) → cond b true c ≡ true → (b ≡ true) ⊎ (c ≡ true)
cond_either true c e = inl refl
cond_either false c e = inr e

only_member : (q x : ℕ) → Member (q ∷ []) x → q ≡ x
only_member q x (inl e) = e
only_member q x (inr h) = absurd h

-- a set of numbers, and one number more
pub set_none : (xs : List ℕ) (test : ℕ → Bool) → xs ≡ [] → ((x : ℕ) → test x ≡ false) → IsSetOf xs test
set_none xs test e h = record {
  there = λ x m. absurd (subst (λ (l : List ℕ). Member l x) e m);
  back = λ x t. absurd (false≢true (sym (h x) ∙ t));
}

pub set_push : (xs new : List ℕ) (q : ℕ) (test test' : ℕ → Bool) → IsSetOf xs test → new ≡ xs ++ q ∷ [] →
    ((x : ℕ) → test' x ≡ cond (eqb q x) true (test x)) → IsSetOf new test'
set_push xs new q test test' v e h = record {
  there = λ x m.
      elim (member_split xs (q ∷ []) x (subst (λ (l : List ℕ). Member l x) e m)) [
        | inl k ↦ h x ∙ cond_later (eqb q x) (test x) (v.there x k)
        | inr k ↦ h x ∙ cond_here (eqb q x) (test x) (eq-eqb q x (only_member q x k))
      ];
  back = λ x t.
      subst (λ (l : List ℕ). Member l x) (sym e)
      (elim (cond_either (eqb q x) (test x) (sym (h x) ∙ t)) [
        | inl i ↦ member_rest xs (q ∷ []) x (inl (eqb-true q x i))
        | inr k ↦ member_front xs (q ∷ []) x (v.back x k)
      ]);
}
