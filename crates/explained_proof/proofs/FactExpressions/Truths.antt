-- Tests of lists: what one member and all members tell of each other.
use Rattle.std.proofs.Common.{◌≡◌, ◌∙◌, ◌⊎◌, inl, inr, Bool, true, false, not, cond, List, [], ◌∷◌, ◌++◌, map, refl, sym, ap}
use Rattle.std.specs.Prelude.{◌&&◌, ◌||◌, filter}
use Rattle.std.specs.List.{list_any, list_all, AllByRecursion}
use Rattle.std.proofs.lemmas.Bool.{and_parts, and_from, or_cases, or_left, or_right, false≢true}

pub both_true : (a b : Bool) → (a && b) ≡ true → (a ≡ true) × (b ≡ true)
both_true a b h = and_parts a b h

pub and_true : (a b : Bool) → a ≡ true → b ≡ true → (a && b) ≡ true
and_true a b h k = and_from a b h k

-- two truth values that imply each other
pub same_truth : (a b : Bool) → (a ≡ true → b ≡ true) → (b ≡ true → a ≡ true) → a ≡ b
same_truth true true f g = refl
same_truth true false f g = sym (f refl)
same_truth false true f g = g refl
same_truth false false f g = refl

pub not_true : (a : Bool) → not a ≡ true → a ≡ true → ⊥
not_true true h k = false≢true h
not_true false h k = false≢true k

pub is_false : (a : Bool) → (a ≡ true → ⊥) → not a ≡ true
is_false true f = absurd (f refl)
is_false false f = refl

pub and_joins : (x y z : Bool) → ((x && y) && z) ≡ (x && (y && z))
and_joins true y z = refl
and_joins false y z = refl

module _ {X : Type 0} where
  pub all_from : (q : X → Bool) (xs : List X) → ((x : X) → q x ≡ true) → list_all q xs ≡ true
  all_from q [] f = refl
  all_from q (x ∷ xs) f = and_true (q x) (list_all q xs) (f x) (all_from q xs f)

  -- where all members pass one test and another, they pass a third
  pub all_with : (p q r : X → Bool) (xs : List X) → list_all p xs ≡ true → list_all q xs ≡ true → ((x : X) → p x ≡ true → q x ≡ true → r x ≡ true) → list_all r xs ≡ true
  all_with p q r [] h k f = refl
  all_with p q r (x ∷ xs) h k f =
      let a = both_true (p x) (list_all p xs) h in
      let b = both_true (q x) (list_all q xs) k in
      and_true (r x) (list_all r xs) (f x a.0 b.0) (all_with p q r xs a.1 b.1 f)

  pub all_so : (p r : X → Bool) (xs : List X) → list_all p xs ≡ true → ((x : X) → p x ≡ true → r x ≡ true) → list_all r xs ≡ true
  all_so p r xs h f = all_with p p r xs h h (λ x a b. f x a)

  -- a member that passes a test, of members that pass another
  pub found : (p q : X → Bool) (xs : List X) → list_any p xs ≡ true → list_all q xs ≡ true → (x : X) × (p x ≡ true) × (q x ≡ true)
  found p q [] h k = absurd (false≢true h)
  found p q (x ∷ xs) h k =
      let b = both_true (q x) (list_all q xs) k in
      by (or_cases (p x) (list_any p xs) h) b.0 (λ (a : list_any p xs ≡ true). found p q xs a b.1)
    where
      by : (p x ≡ true) ⊎ (list_any p xs ≡ true) → q x ≡ true → (list_any p xs ≡ true → (x : X) × (p x ≡ true) × (q x ≡ true)) → (x : X) × (p x ≡ true) × (q x ≡ true)
      by (inl a) c behind = (x, a, c)
      by (inr a) c behind = behind a

  -- where one member passes a test and all another, one passes a third
  pub any_with : (p q r : X → Bool) (xs : List X) → list_any p xs ≡ true → list_all q xs ≡ true → ((x : X) → p x ≡ true → q x ≡ true → r x ≡ true) → list_any r xs ≡ true
  any_with p q r [] h k f = absurd (false≢true h)
  any_with p q r (x ∷ xs) h k f =
      let b = both_true (q x) (list_all q xs) k in
      by (or_cases (p x) (list_any p xs) h) b.0 (λ (a : list_any p xs ≡ true). any_with p q r xs a b.1 f)
    where
      by : (p x ≡ true) ⊎ (list_any p xs ≡ true) → q x ≡ true → (list_any p xs ≡ true → list_any r xs ≡ true) → list_any r (x ∷ xs) ≡ true
      by (inl a) c behind = or_left (r x) (list_any r xs) (f x a c)
      by (inr a) c behind = or_right (r x) (list_any r xs) (behind a)

  pub any_so : (p r : X → Bool) (xs : List X) → list_any p xs ≡ true → ((x : X) → p x ≡ true → r x ≡ true) → list_any r xs ≡ true
  any_so p r xs h f = any_with p (λ x. true) r xs h (all_from (λ x. true) xs (λ x. refl)) (λ x a b. f x a)

  -- members that a filter keeps
  pub all_kept : (p q : X → Bool) (xs : List X) → list_all q xs ≡ true → list_all q (filter p xs) ≡ true
  all_kept p q [] h = refl
  all_kept p q (x ∷ xs) h = let a = both_true (q x) (list_all q xs) h in by (p x) a.0 (all_kept p q xs a.1)
    where
      by : (b : Bool) → q x ≡ true → list_all q (filter p xs) ≡ true → list_all q (cond b (x ∷ filter p xs) (filter p xs)) ≡ true
      by true a c = and_true (q x) (list_all q (filter p xs)) a c
      by false a c = c

  -- where what passes the filter passes the test
  pub all_passed : (p q : X → Bool) (xs : List X) → ((x : X) → p x ≡ true → q x ≡ true) → list_all q (filter p xs) ≡ true
  all_passed p q [] f = refl
  all_passed p q (x ∷ xs) f = by (p x) (f x) (all_passed p q xs f)
    where
      by : (b : Bool) → (b ≡ true → q x ≡ true) → list_all q (filter p xs) ≡ true → list_all q (cond b (x ∷ filter p xs) (filter p xs)) ≡ true
      by true a c = and_true (q x) (list_all q (filter p xs)) (a refl) c
      by false a c = c

  -- where what the filter keeps passes the test, and so does what it drops
  pub all_back : (p q : X → Bool) (xs : List X) → list_all q (filter p xs) ≡ true → ((x : X) → p x ≡ false → q x ≡ true) → list_all q xs ≡ true
  all_back p q [] h f = refl
  all_back p q (x ∷ xs) h f = by (p x) refl h (λ (k : list_all q (filter p xs) ≡ true). all_back p q xs k f)
    where
      by : (b : Bool) → p x ≡ b → list_all q (cond b (x ∷ filter p xs) (filter p xs)) ≡ true → (list_all q (filter p xs) ≡ true → list_all q xs ≡ true) → list_all q (x ∷ xs) ≡ true
      by true e k behind = let a = both_true (q x) (list_all q (filter p xs)) k in and_true (q x) (list_all q xs) a.0 (behind a.1)
      by false e k behind = and_true (q x) (list_all q xs) (f x e) (behind k)

  -- one thing said by another
  pub one_says : (S : X → X → Bool) (h : X → Bool) → ((y x : X) → S y x ≡ true → h x ≡ true → h y ≡ true) → (xs : List X) (y : X) → list_any (S y) xs ≡ true → list_all h xs ≡ true → h y ≡ true
  one_says S h sound xs y a b = let w = found (S y) h xs a b in sound y w.0 w.1 w.2

  -- what is said by one of those that are said by these is said by one of these
  pub says_on : (S : X → X → Bool) → ((x y z : X) → S x y ≡ true → S y z ≡ true → S x z ≡ true) → (xs ys : List X) (z : X) → list_all (λ y. list_any (S y) xs) ys ≡ true →
      list_any (S z) ys ≡ true → list_any (S z) xs ≡ true
  says_on S trans xs ys z h k =
      let w = found (S z) (λ y. list_any (S y) xs) ys k h in
      any_so (S w.0) (S z) xs w.2 (λ x a. trans z w.0 x w.1 a)

module _ {X Y : Type 0} where
  pub any_map : (p : Y → Bool) (f : X → Y) (xs : List X) → list_any p (map f xs) ≡ list_any (λ x. p (f x)) xs
  any_map p f [] = refl
  any_map p f (x ∷ xs) = ap (λ b. p (f x) || b) (any_map p f xs)
