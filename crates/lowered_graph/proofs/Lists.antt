-- Small facts about lists: members, places and all members.
use Rattle.std.proofs.Common.{◌≡◌, ◌⊎◌, ℕ, zero, suc, ◌+◌, Bool, true, false, not, ◌||◌, List, [], ◌∷◌, ◌++◌, length, Some, Contains, inl, inr, refl, subst, arith}
use Rattle.std.specs.Prelude.{slice_get}
use Rattle.std.specs.List.{AllByRecursion}
use Rattle.std.proofs.lemmas.Bool.{false≢true}
use Rattle.std.proofs.lemmas.Option.{slice_get_within, get_or_from_slice_get}
use Rattle.nwa_base.specs.Members.{Member}
use Rattle.lowered_graph.specs.LoweredSteps.Stacks.{IsAmong}

-- ---- members

pub member_front : {X : Type 0} (xs ys : List X) (x : X) → Member xs x → Member (xs ++ ys) x
member_front [] ys x m = absurd m
member_front (y ∷ xs) ys x (inl e) = inl e
member_front (y ∷ xs) ys x (inr m) = inr (member_front xs ys x m)

pub member_rest : {X : Type 0} (xs ys : List X) (x : X) → Member ys x → Member (xs ++ ys) x
member_rest [] ys x m = m
member_rest (y ∷ xs) ys x m = inr (member_rest xs ys x m)

pub member_either : {X : Type 0} (xs ys : List X) (x : X) → Member (xs ++ ys) x → Member xs x ⊎ Member ys x
member_either [] ys x m = inr m
member_either (y ∷ xs) ys x (inl e) = inl (inl e)
member_either (y ∷ xs) ys x (inr m) = elim (member_either xs ys x m) [ inl h ↦ inl (inr h) | inr h ↦ inr h ]

-- a member of a list with one more at the end
pub before_or_last : {X : Type 0} (xs : List X) (y x : X) → Member (xs ++ y ∷ []) x → Member xs x ⊎ (y ≡ x)
before_or_last [] y x (inl e) = inr e
before_or_last [] y x (inr m) = absurd m
before_or_last (z ∷ xs) y x (inl e) = inl (inl e)
before_or_last (z ∷ xs) y x (inr m) = elim (before_or_last xs y x m) [ inl k ↦ inl (inr k) | inr e ↦ inr e ]

pub among_either : {X : Type 0} (xs ys : List X) (x : X) → IsAmong (xs ++ ys) x → IsAmong xs x ⊎ IsAmong ys x
among_either [] ys x m = inr m
among_either (y ∷ xs) ys x (inl e) = inl (inl e)
among_either (y ∷ xs) ys x (inr m) = elim (among_either xs ys x m) [ inl h ↦ inl (inr h) | inr h ↦ inr h ]

-- ---- places

pub get_front : {X : Type 0} (xs ys : List X) (n : ℕ) (x : X) → slice_get xs n ≡ Some x → slice_get (xs ++ ys) n ≡ Some x
get_front [] ys n x e = absurd (cc)
get_front (y ∷ xs) ys zero x e = e
get_front (y ∷ xs) ys (suc n) x e = get_front xs ys n x e

pub get_behind : {X : Type 0} (xs ys : List X) (n : ℕ) (y : X) → slice_get ys n ≡ Some y → slice_get (xs ++ ys) (length xs + n) ≡ Some y
get_behind [] ys n y e = let z : n ≡ 0 + n = omega arith in subst (λ (m : ℕ). slice_get ys m ≡ Some y) z e
get_behind (x ∷ xs) ys n y e =
    let z : suc (length xs + n) ≡ suc (length xs) + n = omega arith in
    subst (λ (m : ℕ). slice_get (x ∷ (xs ++ ys)) m ≡ Some y) z (get_behind xs ys n y e)

pub get_member : {X : Type 0} (xs : List X) (n : ℕ) (x : X) → slice_get xs n ≡ Some x → Member xs x
get_member [] n x e = absurd (cc)
get_member (y ∷ xs) zero x e = inl (cc)
get_member (y ∷ xs) (suc n) x e = inr (get_member xs n x e)

pub contained : {X : Type 0} (xs : List X) (n : ℕ) (x : X) → slice_get xs n ≡ Some x → Contains xs x
contained xs n x e = (n, slice_get_within xs n x e, get_or_from_slice_get xs n x x e)

-- the member at a place of the whole list, counted from 0
pub from_zero : {X : Type 0} (xs : List X) (i : ℕ) (x : X) → slice_get xs i ≡ Some x → slice_get xs (0 + i) ≡ Some x
from_zero xs i x e = subst (λ (m : ℕ). slice_get xs m ≡ Some x) (let s : i ≡ 0 + i = omega arith in s) e

pub all_get : {X : Type 0} (P : X → Type 0) (xs : List X) (i : ℕ) (x : X) → AllByRecursion P xs → slice_get xs i ≡ Some x → P x
all_get P [] i x h e = absurd (cc)
all_get P (y ∷ ys) zero x h e = let k : y ≡ x = cc in subst P k h.0
all_get P (y ∷ ys) (suc i) x h e = all_get P ys i x h.1 e

-- ---- tests

pub or_right : (a b : Bool) → b ≡ true → (a || b) ≡ true
or_right true b e = refl
or_right false b e = e

pub not_both : (b : Bool) → b ≡ true → not b ≡ true → ⊥
not_both true e h = false≢true h
not_both false e h = false≢true e
