-- Sums over lists when one member changes.
use Rattle.std.proofs.Common.{◌≡◌, ◌≢◌, ℕ, zero, suc, ◌+◌, ◌<◌, ◌≤◌, ◌⊎◌, inl, inr, ⊎_elim, Bool, true, false, nat_eq, if◌then◌else◌, List, [], ◌∷◌, ◌++◌, set, sym, ap, subst, refl, Option, None, Some, arith}
use mathlib.Core.Option as maybe
use mathlib.Core.Option.{some-injective, some-ne-none}
use lib.ListN.{get_elem?}
use Rattle.version_cell.specs.Counts.{total, times, once_below, count}

module _ {X : Type 0} (f : X → ℕ) where
  pub total_set : (xs : List X) (i : ℕ) (v w : X) → get_elem? xs i ≡ maybe.some v → total f (set xs i w) + f v ≡ total f xs + f w
  total_set [] i v w e = absurd (some-ne-none v (sym e))
  total_set (x ∷ xs) zero v w e = let q = ap f (some-injective x v e) in omega arith
  total_set (x ∷ xs) (suc i) v w e = let q = total_set xs i v w e in omega arith

  pub total_one : (xs : List X) (i : ℕ) (v : X) → get_elem? xs i ≡ maybe.some v → f v ≤ total f xs
  total_one [] i v e = absurd (some-ne-none v (sym e))
  total_one (x ∷ xs) zero v e = let q = ap f (some-injective x v e) in omega arith
  total_one (x ∷ xs) (suc i) v e = let q = total_one xs i v e in omega arith

  -- two members are at most the sum
  pub total_two : (xs : List X) (i j : ℕ) (v w : X) → j ≢ i → get_elem? xs i ≡ maybe.some v → get_elem? xs j ≡ maybe.some w →
      f v + f w ≤ total f xs
  total_two [] i j v w n e d = absurd (some-ne-none v (sym e))
  total_two (x ∷ xs) zero zero v w n e d = absurd (n refl)
  total_two (x ∷ xs) zero (suc j) v w n e d = let q = ap f (some-injective x v e) in let o = total_one xs j w d in omega arith
  total_two (x ∷ xs) (suc i) zero v w n e d = let q = ap f (some-injective x w d) in let o = total_one xs i v e in omega arith
  total_two (x ∷ xs) (suc i) (suc j) v w n e d = let q = total_two xs i j v w (λ s. n (ap suc s)) e d in omega arith

  pub total_append : (xs : List X) (y : X) → total f (xs ++ y ∷ []) ≡ total f xs + f y
  total_append [] y = omega arith
  total_append (x ∷ xs) y = let q = total_append xs y in omega arith

  pub total_none : (xs : List X) → ((j : ℕ) (u : X) → get_elem? xs j ≡ maybe.some u → f u ≡ 0) → total f xs ≡ 0
  total_none [] z = refl
  total_none (x ∷ xs) z = let a = z 0 x refl in let b = total_none xs (λ j u e. z (suc j) u e) in omega arith

  -- where all others count 0 the sum is the one
  pub total_only : (xs : List X) (i : ℕ) (v : X) → get_elem? xs i ≡ maybe.some v →
      ((j : ℕ) (u : X) → j ≢ i → get_elem? xs j ≡ maybe.some u → f u ≡ 0) → total f xs ≡ f v
  total_only [] i v e z = absurd (some-ne-none v (sym e))
  total_only (x ∷ xs) zero v e z =
      let q = ap f (some-injective x v e) in
      let r = total_none xs (λ j u d. z (suc j) u (λ s. absurd (omega (arith, s))) d) in omega arith
  total_only (x ∷ xs) (suc i) v e z =
      let a = z 0 x (λ s. absurd (omega (arith, s))) refl in
      let r = total_only xs i v e (λ j u n d. z (suc j) u (λ s. n (omega (arith, s))) d) in omega arith

pub times_append : (p : ℕ) (xs ys : List ℕ) → times p (xs ++ ys) ≡ times p xs + times p ys
times_append p [] ys = omega arith
times_append p (x ∷ xs) ys = let q = times_append p xs ys in omega arith

-- a place that stands in a longer list stands in the list, or is the last
pub times_last : (p n : ℕ) (xs : List ℕ) → 0 < times p (xs ++ n ∷ []) → (0 < times p xs) ⊎ (p ≡ n)
times_last p n xs h =
    let q = times_append p xs (n ∷ []) in
    let q' : times p (xs ++ n ∷ []) ≡ times p xs + ((if nat_eq n p then 1 else 0) + 0) = q in grind arith

pub times_either : (p : ℕ) (xs ys : List ℕ) → 0 < times p (xs ++ ys) → (0 < times p xs) ⊎ (0 < times p ys)
times_either p xs ys h = let q = times_append p xs ys in grind arith

-- one more place, of one more entry
pub own_more : (p n m : ℕ) (xs : List ℕ) → m ≡ n + 1 → times p (xs ++ n ∷ []) + once_below p n ≡ times p xs + once_below p m
own_more p n m xs e =
    let q = times_append p xs (n ∷ []) in
    let q' : times p (xs ++ n ∷ []) ≡ times p xs + ((if nat_eq n p then 1 else 0) + 0) = q in grind arith

pub once_most : (p n : ℕ) → once_below p n ≤ 1
once_most p n = grind arith

le_or_more : (n : ℕ) → (n ≤ 0) ⊎ (0 < n)
le_or_more zero = inl (omega arith)
le_or_more (suc n) = inr (omega arith)

once_or_new : (p n : ℕ) (xs : List ℕ) → times p xs ≤ 1 → (0 < times n xs → ⊥) → (b : Bool) → nat_eq n p ≡ b →
    times p (xs ++ n ∷ []) ≡ times p xs + ((if b then 1 else 0) + 0) → times p (xs ++ n ∷ []) ≤ 1
once_or_new p n xs once fresh false e q = omega (arith, once, q)
once_or_new p n xs once fresh true e q =
    let same : n ≡ p = grind arith in
    let none : 0 < times p xs → ⊥ = λ there. fresh (let P : ℕ → Type 0 = λ m. 0 < times m xs in subst P (sym same) there) in
    let zero_ : times p xs ≤ 0 = ⊎_elim (λ z. z) (λ m. absurd (none m)) (le_or_more (times p xs)) in omega (arith, zero_, q)

-- a place that is new stands once
pub times_once : (p n : ℕ) (xs : List ℕ) → times p xs ≤ 1 → (0 < times n xs → ⊥) → times p (xs ++ n ∷ []) ≤ 1
times_once p n xs once fresh =
    let q = times_append p xs (n ∷ []) in
    let q' : times p (xs ++ n ∷ []) ≡ times p xs + ((if nat_eq n p then 1 else 0) + 0) = q in
    once_or_new p n xs once fresh (nat_eq n p) refl q'

pub count_one : {X : Type 0} (o : Option X) (x : X) → o ≡ Some x → count o ≡ 1
count_one o x e = ap count e

pub count_none : {X : Type 0} (o : Option X) → count o ≡ 0 → o ≡ None
count_none None e = refl
count_none (Some x) e = absurd (omega (arith, e))

pub count_most : {X : Type 0} (o : Option X) → count o ≤ 1
count_most None = omega arith
count_most (Some x) = omega arith

IsThere : {X : Type 0} → Option X → Type 0
IsThere None = ⊥
IsThere (Some x) = Unit {0}

pub none_some : {X : Type 0} (x : X) → None ≡ Some x → ⊥
unfolding IsThere
none_some x e = subst IsThere (sym e) tt

value_or : {X : Type 0} → X → Option X → X
value_or d None = d
value_or d (Some x) = x

pub some_is : {X : Type 0} (x y : X) → Some x ≡ Some y → x ≡ y
unfolding value_or
some_is x y e = ap (value_or x) e
