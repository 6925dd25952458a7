-- What `summed` gives: ascending terms without a coefficient 0, with the coefficients and the value of the given terms.
use Rattle.std.proofs.Common.{◌≡◌, ◌≢◌, ℕ, ◌+◌, ◌<◌, ◌≤◌, Bool, true, false, ℤ, pos, negsuc, ◌+ℤ◌, ◌*ℤ◌, List, [], ◌∷◌, ◌++◌, nat_eq, nat_lt, if◌then◌else◌, ap, refl, sym, ◌∙◌, subst, arith}
use Rattle.std.proofs.lemmas.Int.{ints}
use Rattle.std.proofs.lemmas.Bool.{eqb-true, eqb-false, ltb-true, ltb-false}
use Rattle.math_facts.specs.Terms.{coefficient, dot, scaled}
use Rattle.math_facts.proofs.Whole.{distrib_right, product_zero_left}
use Rattle.math_facts.proofs.TermLaws.{coefficient-append, coefficient-scaled, dot-append, dot-scaled}
use Rattle.lin_rows.specs.Rows.{AscendsFrom}
use Rattle.lin_rows.proofs.Ascending.{AscendsFrom_less, HasNoZero, same_from_coefficients}
use Rattle.lin_rows.specs.Sums.{is_zero, led_by, added_at, summed}

zero_is : (a : ℤ) → is_zero a ≡ true → a ≡ pos 0
zero_is (pos n) e = ap pos (eqb-true n 0 e)
zero_is (negsuc n) e = absurd (cc)

zero_is_not : (a : ℤ) → is_zero a ≡ false → a ≢ pos 0
zero_is_not (pos n) e h = eqb-false n 0 e (omega (arith, ints))
zero_is_not (negsuc n) e h = absurd (omega (arith, ints))

-- ---- a number that adds up over terms: `total` counts `worth c a` for the coefficient a of a column c

module _ (worth : ℕ → ℤ → ℤ) (none : (c : ℕ) → worth c (pos 0) ≡ pos 0) (both : (c : ℕ) (a b : ℤ) → worth c (a +ℤ b) ≡ worth c a +ℤ worth c b)
    (total : List (ℕ × ℤ) → ℤ) (empty : total [] ≡ pos 0) (step : (t : ℕ × ℤ) (ts : List (ℕ × ℤ)) → total (t ∷ ts) ≡ worth t.0 t.1 +ℤ total ts) where
  total-led_by : (c : ℕ) (a : ℤ) (ts : List (ℕ × ℤ)) → total (led_by c a ts) ≡ worth c a +ℤ total ts
  total-led_by c a ts = by_test (is_zero a) refl
    where
      by_test : (z : Bool) → is_zero a ≡ z → total (if z then ts else (c, a) ∷ ts) ≡ worth c a +ℤ total ts
      by_test true e = rw (zero_is a e, none c) (omega (arith, ints))
      by_test false e = step (c, a) ts

  total-added_at : (c : ℕ) (a : ℤ) (ts : List (ℕ × ℤ)) → total (added_at c a ts) ≡ worth c a +ℤ total ts
  total-added_at c a [] = total-led_by c a []
  total-added_at c a (t ∷ ts) = by_tests (nat_lt c t.0) (nat_eq c t.0) refl (total-added_at c a ts)
    where
      by_tests : (l k : Bool) → nat_eq c t.0 ≡ k → total (added_at c a ts) ≡ worth c a +ℤ total ts →
          total (if l then led_by c a (t ∷ ts) else (if k then led_by c (t.1 +ℤ a) ts else t ∷ added_at c a ts)) ≡ worth c a +ℤ total (t ∷ ts)
      by_tests true k e h = total-led_by c a (t ∷ ts)
      by_tests false true e h =
          let f : total (led_by c (t.1 +ℤ a) ts) ≡ worth c (t.1 +ℤ a) +ℤ total ts = total-led_by c (t.1 +ℤ a) ts in
          let g : worth c (t.1 +ℤ a) ≡ worth c t.1 +ℤ worth c a = both c t.1 a in
          let i : worth c t.1 ≡ worth t.0 t.1 = ap (λ (n : ℕ). worth n t.1) (eqb-true c t.0 e) in
          let j : total (t ∷ ts) ≡ worth t.0 t.1 +ℤ total ts = step t ts in
          omega (arith, ints)
      by_tests false false e h =
          let i : total (t ∷ added_at c a ts) ≡ worth t.0 t.1 +ℤ total (added_at c a ts) = step t (added_at c a ts) in
          let j : total (t ∷ ts) ≡ worth t.0 t.1 +ℤ total ts = step t ts in
          omega (arith, ints)

  total-summed : (ts : List (ℕ × ℤ)) → total (summed ts) ≡ total ts
  total-summed [] = refl
  total-summed (t ∷ ts) =
      let f : total (added_at t.0 t.1 (summed ts)) ≡ worth t.0 t.1 +ℤ total (summed ts) = total-added_at t.0 t.1 (summed ts) in
      let g : total (summed ts) ≡ total ts = total-summed ts in
      let j : total (t ∷ ts) ≡ worth t.0 t.1 +ℤ total ts = step t ts in
      omega (arith, ints)

only : ℕ → ℕ → ℤ → ℤ
only d c a = if nat_eq c d then a else pos 0

only_none : (d c : ℕ) → only d c (pos 0) ≡ pos 0
unfolding only
only_none d c = by_test (nat_eq c d)
  where
    by_test : (b : Bool) → (if b then pos 0 else pos 0) ≡ pos 0
    by_test true = refl
    by_test false = refl

only_both : (d c : ℕ) (x y : ℤ) → only d c (x +ℤ y) ≡ only d c x +ℤ only d c y
unfolding only
only_both d c x y = by_test (nat_eq c d)
  where
    by_test : (b : Bool) → (if b then x +ℤ y else pos 0) ≡ (if b then x else pos 0) +ℤ (if b then y else pos 0)
    by_test true = refl
    by_test false = refl

-- adding up changes no coefficient
pub coefficient-summed : (d : ℕ) (ts : List (ℕ × ℤ)) → coefficient d (summed ts) ≡ coefficient d ts
unfolding only
coefficient-summed d ts = total-summed (only d) (only_none d) (only_both d) (coefficient d) refl (λ t ts. refl) ts

-- and no value
pub dot-summed : (point : ℕ → ℤ) (ts : List (ℕ × ℤ)) → dot point (summed ts) ≡ dot point ts
dot-summed point ts =
    total-summed (λ c a. a *ℤ point c) (λ c. product_zero_left (point c)) (λ c a b. distrib_right a b (point c)) (dot point) refl (λ t ts. refl) ts

-- ---- the order of the columns

AscendsFrom-led_by : (low c : ℕ) (a : ℤ) (ts : List (ℕ × ℤ)) → low ≤ c → AscendsFrom (c + 1) ts → AscendsFrom low (led_by c a ts)
AscendsFrom-led_by low c a ts l h = by_test (is_zero a)
  where
    by_test : (z : Bool) → AscendsFrom low (if z then ts else (c, a) ∷ ts)
    by_test true = AscendsFrom_less low (c + 1) ts (omega arith) h
    by_test false = (l, h)

-- a term added at its place leaves the columns in order
pub AscendsFrom-added_at : (low c : ℕ) (a : ℤ) (ts : List (ℕ × ℤ)) → low ≤ c → AscendsFrom low ts → AscendsFrom low (added_at c a ts)
AscendsFrom-added_at low c a [] l h = AscendsFrom-led_by low c a [] l tt
AscendsFrom-added_at low c a (t ∷ ts) l h =
    by_tests (nat_lt c t.0) (nat_eq c t.0) refl refl h.1 (λ (k : t.0 + 1 ≤ c). AscendsFrom-added_at (t.0 + 1) c a ts k h.1)
  where
    by_tests : (b e : Bool) → nat_lt c t.0 ≡ b → nat_eq c t.0 ≡ e → AscendsFrom (t.0 + 1) ts → (t.0 + 1 ≤ c → AscendsFrom (t.0 + 1) (added_at c a ts)) →
        AscendsFrom low (if b then led_by c a (t ∷ ts) else (if e then led_by c (t.1 +ℤ a) ts else t ∷ added_at c a ts))
    by_tests true e p q k f = let m : c < t.0 = ltb-true c t.0 p in AscendsFrom-led_by low c a (t ∷ ts) l (omega arith, k)
    by_tests false true p q k f =
        AscendsFrom-led_by low c (t.1 +ℤ a) ts l (subst (λ (n : ℕ). AscendsFrom (n + 1) ts) (sym (eqb-true c t.0 q)) k)
    by_tests false false p q k f =
        let m : t.0 ≤ c = ltb-false c t.0 p in
        let n : c ≡ t.0 → ⊥ = eqb-false c t.0 q in
        (h.0, f (omega arith))

-- the columns of the sum ascend
pub AscendsFrom-summed : (ts : List (ℕ × ℤ)) → AscendsFrom 0 (summed ts)
AscendsFrom-summed [] = tt
AscendsFrom-summed (t ∷ ts) = AscendsFrom-added_at 0 t.0 t.1 (summed ts) (omega arith) (AscendsFrom-summed ts)

-- ---- no coefficient is 0

HasNoZero-led_by : (c : ℕ) (a : ℤ) (ts : List (ℕ × ℤ)) → HasNoZero ts → HasNoZero (led_by c a ts)
HasNoZero-led_by c a ts h = by_test (is_zero a) refl
  where
    by_test : (z : Bool) → is_zero a ≡ z → HasNoZero (if z then ts else (c, a) ∷ ts)
    by_test true e = h
    by_test false e = (zero_is_not a e, h)

-- a term added at its place leaves no 0
pub HasNoZero-added_at : (c : ℕ) (a : ℤ) (ts : List (ℕ × ℤ)) → HasNoZero ts → HasNoZero (added_at c a ts)
HasNoZero-added_at c a [] h = HasNoZero-led_by c a [] tt
HasNoZero-added_at c a (t ∷ ts) h = by_tests (nat_lt c t.0) (nat_eq c t.0) (HasNoZero-added_at c a ts h.1)
  where
    by_tests : (b e : Bool) → HasNoZero (added_at c a ts) → HasNoZero (if b then led_by c a (t ∷ ts) else (if e then led_by c (t.1 +ℤ a) ts else t ∷ added_at c a ts))
    by_tests true e f = HasNoZero-led_by c a (t ∷ ts) h
    by_tests false true f = HasNoZero-led_by c (t.1 +ℤ a) ts h.1
    by_tests false false f = (h.0, f)

-- the sum has no coefficient 0
pub HasNoZero-summed : (ts : List (ℕ × ℤ)) → HasNoZero (summed ts)
HasNoZero-summed [] = tt
HasNoZero-summed (t ∷ ts) = HasNoZero-added_at t.0 t.1 (summed ts) (HasNoZero-summed ts)

-- ---- the sum is determined by its coefficients

-- Ascending terms without a coefficient 0 that have the coefficients of the given terms are their sum.
pub summed_from_coefficients : (given sum : List (ℕ × ℤ)) → AscendsFrom 0 sum → HasNoZero sum → ((c : ℕ) → coefficient c sum ≡ coefficient c given) → sum ≡ summed given
summed_from_coefficients given sum up kept h =
    same_from_coefficients 0 sum (summed given) up (AscendsFrom-summed given) kept (HasNoZero-summed given) (λ c. h c ∙ sym (coefficient-summed c given))

-- the coefficients of `a + m*b`
pub coefficient-scaled_sum : (c : ℕ) (a : List (ℕ × ℤ)) (m : ℤ) (b : List (ℕ × ℤ)) →
    coefficient c (summed (a ++ scaled m b)) ≡ coefficient c a +ℤ (m *ℤ coefficient c b)
coefficient-scaled_sum c a m b =
    coefficient-summed c (a ++ scaled m b) ∙ coefficient-append c a (scaled m b) ∙ ap (λ (z : ℤ). coefficient c a +ℤ z) (coefficient-scaled c m b)

-- the value of `a + m*b`
pub dot-scaled_sum : (point : ℕ → ℤ) (a : List (ℕ × ℤ)) (m : ℤ) (b : List (ℕ × ℤ)) →
    dot point (summed (a ++ scaled m b)) ≡ dot point a +ℤ (m *ℤ dot point b)
dot-scaled_sum point a m b =
    dot-summed point (a ++ scaled m b) ∙ dot-append point a (scaled m b) ∙ ap (λ (z : ℤ). dot point a +ℤ z) (dot-scaled point m b)

-- Ascending terms without a coefficient 0 that have the coefficients of `a + m*b` are the terms of `a + m*b`.
pub scaled_sum_from_coefficients : (a : List (ℕ × ℤ)) (m : ℤ) (b sum : List (ℕ × ℤ)) → AscendsFrom 0 sum → HasNoZero sum →
    ((c : ℕ) → coefficient c sum ≡ coefficient c a +ℤ (m *ℤ coefficient c b)) → sum ≡ summed (a ++ scaled m b)
scaled_sum_from_coefficients a m b sum up kept h =
    same_from_coefficients 0 sum (summed (a ++ scaled m b)) up (AscendsFrom-summed (a ++ scaled m b)) kept (HasNoZero-summed (a ++ scaled m b))
    (λ c. h c ∙ sym (coefficient-scaled_sum c a m b))
