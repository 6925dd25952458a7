-- Loops over the places of a list, whose invariant says that what is left of the list decides: one member more, a member
-- that decides, and the end.
use Rattle.std.proofs.Common.{◌≡◌, ◌↔◌, ◌∙◌, ℕ, ◌+◌, ◌-◌, ◌<◌, ◌≤◌, Bool, true, false, List, [], ◌∷◌, length, take, drop, map, get_or, refl, sym, ap, subst, arith, length-drop}
use Rattle.std.proofs.lemmas.Bool.{false≢true}
use Rattle.std.proofs.lemmas.List.{drop_more, drop_all, take_all}
use Rattle.std.proofs.lemmas.Option.{slice_get_read}
use Rattle.nwa_base.specs.Members.{Member}
use Rattle.letter_acts.specs.Invariant.{AreDistinct}

pub not_so : (Q : Type 0) → (Q → ⊥) → (false ≡ true) ↔ Q
not_so Q n = (λ e. absurd (false≢true e), λ q. absurd (n q))

pub so : (Q : Type 0) → Q → (true ≡ true) ↔ Q
so Q q = (λ e. q, λ q. refl)

-- what a test that answered false says
pub refuted : (r : Bool) (P : Type 0) → (r ≡ true) ↔ P → r ≡ false → P → ⊥
refuted r P h e p = false≢true (sym e ∙ h.1 p)

-- the list from the member x at place i on
pub drop_at : {X : Type 0} (xs : List X) (i : ℕ) (x d : X) → x ≡ get_or xs i d → i < length xs → drop i xs ≡ x ∷ drop (i + 1) xs
drop_at xs i x d e l = drop_more xs i d l ∙ ap (λ z. z ∷ drop (i + 1) xs) (sym e)

-- the slice from a place on
pub slice_from : {X : Type 0} (xs : List X) (i : ℕ) → take (length xs - i) (drop i xs) ≡ drop i xs
slice_from xs i = take_all (length xs - i) (drop i xs) (let e = length-drop i xs in omega arith)

pub slice_rest : {X : Type 0} (xs : List X) (i : ℕ) → take (length xs - (i + 1)) (drop (i + 1) xs) ≡ drop (i + 1) xs
slice_rest xs i = slice_from xs (i + 1)

-- one member more
pub step : {X : Type 0} (T U : List X → Type 0) (Q : Type 0) (xs : List X) (i : ℕ) (x d : X) → x ≡ get_or xs i d → i < length xs →
    (T (x ∷ drop (i + 1) xs) ↔ U (drop (i + 1) xs)) → (T (drop i xs) ↔ Q) → U (drop (i + 1) xs) ↔ Q
step T U Q xs i x d e l s h =
    let k = drop_at xs i x d e l in
    (λ u. h.0 (subst T (sym k) (s.1 u)), λ q. s.0 (subst T k (h.1 q)))

-- no member is left, and so it holds
pub ended : {X : Type 0} (T : List X → Type 0) (Q : Type 0) (xs : List X) (i : ℕ) → length xs ≤ i → T [] → (T (drop i xs) ↔ Q) → (true ≡ true) ↔ Q
ended T Q xs i l t h = so Q (h.0 (subst T (sym (drop_all i xs l)) t))

-- no member is left, and so it does not hold
pub ended_not : {X : Type 0} (T : List X → Type 0) (Q : Type 0) (xs : List X) (i : ℕ) → length xs ≤ i → (T [] → ⊥) → (T (drop i xs) ↔ Q) → (false ≡ true) ↔ Q
ended_not T Q xs i l n h = not_so Q (λ q. n (subst T (drop_all i xs l) (h.1 q)))

-- a loop that compares each member with those after it, where the test that found none reads a slice
pub distinct_step : {X Y : Type 0} (f : X → Y) (Q : Type 0) (xs : List X) (i : ℕ) (x d : X) → x ≡ get_or xs i d → i < length xs →
    (Member (map f (take (length xs - (i + 1)) (drop (i + 1) xs))) (f x) → ⊥) →
    (AreDistinct (map f (drop i xs)) ↔ Q) → AreDistinct (map f (drop (i + 1) xs)) ↔ Q
distinct_step {X} f Q xs i x d e l n h =
    let m : Member (map f (drop (i + 1) xs)) (f x) → ⊥ = subst (λ (ys : List X). Member (map f ys) (f x) → ⊥) (slice_rest xs i) n in
    step (λ ys. AreDistinct (map f ys)) (λ ys. AreDistinct (map f ys)) Q xs i x d e l (λ a. a.1, λ a. (m, a)) h

-- the same of the list itself
pub plain_step : {X : Type 0} (Q : Type 0) (xs : List X) (i : ℕ) (x d : X) → x ≡ get_or xs i d → i < length xs →
    (Member (take (length xs - (i + 1)) (drop (i + 1) xs)) x → ⊥) → (AreDistinct (drop i xs) ↔ Q) → AreDistinct (drop (i + 1) xs) ↔ Q
plain_step {X} Q xs i x d e l n h =
    let m : Member (drop (i + 1) xs) x → ⊥ = subst (λ (ys : List X). Member ys x → ⊥) (slice_rest xs i) n in
    step AreDistinct AreDistinct Q xs i x d e l (λ a. a.1, λ a. (m, a)) h

pub both_ways : (A B C : Type 0) → A ↔ B → B ↔ C → A ↔ C
both_ways A B C f g = (λ a. g.0 (f.0 a), λ k. f.1 (g.1 k))

-- two reads of one place
pub one_member : {X : Type 0} (xs : List X) (i : ℕ) (x y : X) → i < length xs → x ≡ get_or xs i x → y ≡ get_or xs i y → x ≡ y
one_member xs i x y l e k =
    let a = slice_get_read xs (length xs) i x refl l e in
    let b = slice_get_read xs (length xs) i y refl l k in
    cc (a, b)
