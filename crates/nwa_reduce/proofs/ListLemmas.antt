-- Lists and their members.
use Rattle.std.proofs.Common.{◌≡◌, ◌≢◌, ◌∙◌, ◌⊎◌, ◌<◌, ◌≤◌, ℕ, zero, suc, Bool, true, false, cond, get_or, eq-eqb, List, [], ◌∷◌, ◌++◌, None, Some, length, slice_get, refl, sym, ap, subst, inl, inr, arith, eqb}
use Rattle.std.proofs.lemmas.Bool.{eqb-true, false≢true}
use Rattle.std.specs.List.{list_any}
use Rattle.nwa_base.specs.Members.{Member}
use Rattle.nwa_base.proofs.MemberLemmas.{any_member, member_any, member_front, member_rest, member_split}
use Rattle.nwa_reduce.specs.Ties.Naming.{AreDistinct}

pub get_front : {X : Type 0} (xs ys : List X) (i : ℕ) (y : X) → slice_get xs i ≡ Some y → slice_get (xs ++ ys) i ≡ Some y
get_front [] ys i y e = cc
get_front (x ∷ xs) ys zero y e = e
get_front (x ∷ xs) ys (suc i) y e = get_front xs ys i y e

pub get_last : {X : Type 0} (xs : List X) (x : X) → slice_get (xs ++ x ∷ []) (length xs) ≡ Some x
get_last [] x = refl
get_last (z ∷ xs) x = get_last xs x

pub get_push : {X : Type 0} (xs : List X) (x : X) (i : ℕ) (y : X) → slice_get (xs ++ x ∷ []) i ≡ Some y →
    (slice_get xs i ≡ Some y) ⊎ ((i ≡ length xs) × (x ≡ y))
get_push [] x zero y e = let f : Some x ≡ Some y = e in let g : x ≡ y = cc in inr (refl, g)
get_push [] x (suc i) y e = let f : None ≡ Some y = e in cc
get_push (z ∷ xs) x zero y e = inl e
get_push (z ∷ xs) x (suc i) y e = elim (get_push xs x i y e) [ inl h ↦ inl h | inr h ↦ inr (ap suc h.0, h.1) ]

pub member_get : {X : Type 0} (xs : List X) (i : ℕ) (x : X) → slice_get xs i ≡ Some x → Member xs x
member_get [] i x e = let f : None ≡ Some x = e in cc
member_get (y ∷ xs) zero x e = let f : Some y ≡ Some x = e in let g : y ≡ x = cc in inl g
member_get (y ∷ xs) (suc i) x e = inr (member_get xs i x e)

pub get_member : {X : Type 0} (xs : List X) (x : X) → Member xs x → (i : ℕ) × (slice_get xs i ≡ Some x)
get_member [] x h = absurd h
get_member (y ∷ xs) x (inl e) = (0, ap (λ z. Some z) e)
get_member (y ∷ xs) x (inr h) = let r = get_member xs x h in (suc r.0, r.1)

pub get_within : {X : Type 0} (xs : List X) (i : ℕ) (x : X) → slice_get xs i ≡ Some x → i < length xs
get_within [] i x e = let f : None ≡ Some x = e in cc
get_within (y ∷ xs) zero x e = omega arith
get_within (y ∷ xs) (suc i) x e = let r = get_within xs i x e in omega arith

pub get_there : {X : Type 0} (xs : List X) (i : ℕ) → i < length xs → (x : X) × (slice_get xs i ≡ Some x)
get_there [] i l = absurd (omega arith)
get_there (y ∷ xs) zero l = (y, refl)
get_there (y ∷ xs) (suc i) l = get_there xs i (omega arith)

pub only_member : {X : Type 0} (y x : X) → Member (y ∷ []) x → y ≡ x
only_member y x (inl e) = e
only_member y x (inr h) = absurd h

pub same_some : {X : Type 0} (x y : X) → Some x ≡ Some y → x ≡ y
same_some x y e = cc

-- a number that the test of numbers finds
pub number_there : (xs : List ℕ) (x : ℕ) → list_any (eqb x) xs ≡ true → Member xs x
number_there xs x h = any_member (λ (y z : ℕ). eqb z y) xs x (λ y e. sym (eqb-true x y e)) h

pub past_end : {X : Type 0} (xs : List X) (i : ℕ) → slice_get xs i ≡ None → length xs ≤ i
past_end [] i e = omega arith
past_end (y ∷ xs) zero e = let f : Some y ≡ None = e in cc
past_end (y ∷ xs) (suc i) e = let r = past_end xs i e in omega arith

pub number_absent : (xs : List ℕ) (x : ℕ) → list_any (eqb x) xs ≡ false → Member xs x → ⊥
number_absent xs x h m = false≢true (sym h ∙ member_any (λ (y z : ℕ). eqb z y) xs x (λ y e. eq-eqb x y (sym e)) m)

pub get_at : {X : Type 0} (xs : List X) (i : ℕ) (d : X) → i < length xs → slice_get xs i ≡ Some (get_or xs i d)
get_at [] i d l = absurd (omega arith)
get_at (x ∷ xs) zero d l = refl
get_at (x ∷ xs) (suc i) d l = get_at xs i d (omega arith)

pub distinct_push : {X : Type 0} (xs : List X) (x : X) → AreDistinct xs → (Member xs x → ⊥) → AreDistinct (xs ++ x ∷ [])
distinct_push [] x d n = ((λ h. h), tt)
distinct_push (y ∷ xs) x d n = (
  λ h. elim (member_split xs (x ∷ []) y h) [ inl m ↦ d.0 m | inr m ↦ n (inl (sym (only_member x y m))) ],
  distinct_push xs x d.1 (λ m. n (inr m)),
)

-- one more, unless it stands there already
pub distinct_insert : {X : Type 0} (b : Bool) (xs new : List X) (x : X) → (b ≡ false → Member xs x → ⊥) → AreDistinct xs →
    new ≡ cond b xs (xs ++ x ∷ []) → AreDistinct new
distinct_insert true xs new x n d e = subst AreDistinct (sym e) d
distinct_insert false xs new x n d e = subst AreDistinct (sym e) (distinct_push xs x d (n refl))

pub insert_old : {X : Type 0} (b : Bool) (xs new : List X) (x y : X) → new ≡ cond b xs (xs ++ x ∷ []) → Member xs y → Member new y
insert_old {X} true xs new x y e m = subst (λ (l : List X). Member l y) (sym e) m
insert_old {X} false xs new x y e m = subst (λ (l : List X). Member l y) (sym e) (member_front xs (x ∷ []) y m)

pub insert_new : {X : Type 0} (b : Bool) (xs new : List X) (x y : X) → (b ≡ true → Member xs x) → new ≡ cond b xs (xs ++ x ∷ []) → x ≡ y → Member new y
insert_new {X} true xs new x y t e f = subst (λ (l : List X). Member l y) (sym e) (subst (Member xs) f (t refl))
insert_new {X} false xs new x y t e f = subst (λ (l : List X). Member l y) (sym e) (member_rest xs (x ∷ []) y (inl f))

pub insert_either : {X : Type 0} (b : Bool) (xs new : List X) (x y : X) → new ≡ cond b xs (xs ++ x ∷ []) → Member new y → Member xs y ⊎ (x ≡ y)
insert_either {X} true xs new x y e m = inl (subst (λ (l : List X). Member l y) e m)
insert_either {X} false xs new x y e m =
    elim (member_split xs (x ∷ []) y (subst (λ (l : List X). Member l y) e m)) [ inl a ↦ inl a | inr b ↦ inr (only_member x y b) ]

-- what stands at two places of a list without equal members stands at one
pub one_place : {X : Type 0} (xs : List X) (i j : ℕ) (x : X) → AreDistinct xs → slice_get xs i ≡ Some x → slice_get xs j ≡ Some x → i ≡ j
one_place [] i j x d e f = let g : None ≡ Some x = e in cc
one_place (y ∷ xs) zero zero x d e f = refl
one_place (y ∷ xs) zero (suc j) x d e f = absurd (d.0 (subst (Member xs) (sym (same_some y x e)) (member_get xs j x f)))
one_place (y ∷ xs) (suc i) zero x d e f = absurd (d.0 (subst (Member xs) (sym (same_some y x f)) (member_get xs i x e)))
one_place (y ∷ xs) (suc i) (suc j) x d e f = ap suc (one_place xs i j x d.1 e f)

without : ℕ → List ℕ → List ℕ
without n [] = []
without n (x ∷ xs) = cond (eqb x n) (without n xs) (x ∷ without n xs)

kept_either : (b : Bool) (x y : ℕ) (xs : List ℕ) → Member (cond b xs (x ∷ xs)) y → ((b ≡ false) × (x ≡ y)) ⊎ Member xs y
kept_either true x y xs h = inr h
kept_either false x y xs (inl e) = inl (refl, e)
kept_either false x y xs (inr h) = inr h

without_member : (n : ℕ) (xs : List ℕ) (y : ℕ) → Member (without n xs) y → Member xs y × (y ≢ n)
unfolding without
without_member n [] y h = absurd h
without_member n (x ∷ xs) y h =
    elim (kept_either (eqb x n) x y (without n xs) h) [
      | inl a ↦ (inl a.1, λ e. false≢true (sym a.0 ∙ eq-eqb x n (a.1 ∙ e)))
      | inr m ↦ let r = without_member n xs y m in (inr r.0, r.1)
    ]

kept_distinct : (b : Bool) (x : ℕ) (xs : List ℕ) → (Member xs x → ⊥) → AreDistinct xs → AreDistinct (cond b xs (x ∷ xs))
kept_distinct true x xs n d = d
kept_distinct false x xs n d = (n, d)

without_distinct : (n : ℕ) (xs : List ℕ) → AreDistinct xs → AreDistinct (without n xs)
unfolding without
without_distinct n [] d = tt
without_distinct n (x ∷ xs) d = kept_distinct (eqb x n) x (without n xs) (λ m. d.0 (without_member n xs x m).0) (without_distinct n xs d.1)

kept_all : (b : Bool) (x : ℕ) (xs rest : List ℕ) → (b ≡ true → ⊥) → length xs ≡ length rest → suc (length xs) ≡ length (cond b rest (x ∷ rest))
kept_all true x xs rest n e = absurd (n refl)
kept_all false x xs rest n e = ap suc e

without_absent : (n : ℕ) (xs : List ℕ) → (Member xs n → ⊥) → length xs ≡ length (without n xs)
unfolding without
without_absent n [] h = refl
without_absent n (x ∷ xs) h =
    kept_all (eqb x n) x xs (without n xs) (λ e. h (inl (eqb-true x n e))) (without_absent n xs (λ m. h (inr m)))

kept_most : (b : Bool) (x : ℕ) (xs rest : List ℕ) → (b ≡ true → length xs ≡ length rest) → length xs ≤ suc (length rest) →
    suc (length xs) ≤ suc (length (cond b rest (x ∷ rest)))
kept_most true x xs rest f h = let e = f refl in omega arith
kept_most false x xs rest f h = omega arith

without_most : (n : ℕ) (xs : List ℕ) → AreDistinct xs → length xs ≤ suc (length (without n xs))
unfolding without
without_most n [] d = omega arith
without_most n (x ∷ xs) d =
    kept_most (eqb x n) x xs (without n xs) (λ e. without_absent n xs (λ m. d.0 (subst (Member xs) (sym (eqb-true x n e)) m)))
    (without_most n xs d.1)

-- no more numbers than there are below n
pub few_below : (n : ℕ) (xs : List ℕ) → AreDistinct xs → ((x : ℕ) → Member xs x → x < n) → length xs ≤ n
few_below zero [] d h = omega arith
few_below zero (x ∷ xs) d h = absurd (let l : x < 0 = h x (inl refl) in omega arith)
few_below (suc n) xs d h =
    let r = few_below n (without n xs) (without_distinct n xs d)
    (λ x m. let k = without_member n xs x m in let l : x < suc n = h x k.0 in let ne : x ≢ n = k.1 in omega arith) in
    let s = without_most n xs d in
    omega arith

-- and one less where one of them is missing
pub fewer_below : (n q : ℕ) (xs : List ℕ) → AreDistinct xs → ((x : ℕ) → Member xs x → x < n) → q < n → (Member xs q → ⊥) → length xs < n
fewer_below n q xs d h l a =
    let r = few_below n (q ∷ xs) (a, d) (λ x m. elim m [ inl e ↦ subst (λ (z : ℕ). z < n) e l | inr k ↦ h x k ]) in
    omega arith

member_case : (xs : List ℕ) (q : ℕ) (b : Bool) → list_any (eqb q) xs ≡ b → Member xs q ⊎ (Member xs q → ⊥)
member_case xs q true e = inl (number_there xs q e)
member_case xs q false e = inr (number_absent xs q e)

pub member_or : (xs : List ℕ) (q : ℕ) → Member xs q ⊎ (Member xs q → ⊥)
member_or xs q = member_case xs q (list_any (eqb q) xs) refl
