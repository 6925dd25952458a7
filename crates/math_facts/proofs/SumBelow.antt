-- The sum of a number for each natural below a bound.
use Rattle.std.proofs.Common.{◌≡◌, ℕ, zero, suc, ◌<◌, ℤ, pos, ◌+ℤ◌, ◌*ℤ◌, nat_eq, if◌then◌else◌, ap, refl, sym, arith, ⊎_elim}
use Rattle.std.proofs.lemmas.Int.{ints}
use Rattle.std.proofs.lemmas.Bool.{eq-eqb, ne_eqb, cases_eq}
use Rattle.math_facts.proofs.Whole.{distrib_left, product_zero_left, product_zero_right}

-- f 0 + f 1 + .. up to f (n - 1)
abbrev pub sum_below : ℕ → (ℕ → ℤ) → ℤ
sum_below zero f = pos 0
sum_below (suc n) f = sum_below n f +ℤ f n

-- functions that agree below n have one sum
pub sum_below_same : (n : ℕ) (f g : ℕ → ℤ) → ((c : ℕ) → c < n → f c ≡ g c) → sum_below n f ≡ sum_below n g
sum_below_same zero f g h = refl
sum_below_same (suc n) f g h =
    let e : sum_below n f ≡ sum_below n g = sum_below_same n f g (λ c l. h c (omega arith)) in
    let d : f n ≡ g n = h n (omega arith) in
    omega (arith, ints)

-- a sum of zeros
pub sum_below_zero : (n : ℕ) (f : ℕ → ℤ) → ((c : ℕ) → c < n → f c ≡ pos 0) → sum_below n f ≡ pos 0
sum_below_zero zero f h = refl
sum_below_zero (suc n) f h =
    let e : sum_below n f ≡ pos 0 = sum_below_zero n f (λ c l. h c (omega arith)) in
    let d : f n ≡ pos 0 = h n (omega arith) in
    omega (arith, ints)

-- a sum of sums is the sum of both sums
pub sum_below-sum : (n : ℕ) (f g : ℕ → ℤ) → sum_below n (λ c. f c +ℤ g c) ≡ sum_below n f +ℤ sum_below n g
sum_below-sum zero f g = refl
sum_below-sum (suc n) f g =
    let e : sum_below n (λ c. f c +ℤ g c) ≡ sum_below n f +ℤ sum_below n g = sum_below-sum n f g in
    omega (arith, ints)

-- a factor comes out of a sum
pub sum_below-product : (n : ℕ) (m : ℤ) (f : ℕ → ℤ) → sum_below n (λ c. m *ℤ f c) ≡ m *ℤ sum_below n f
sum_below-product zero m f = sym (product_zero_right m)
sum_below-product (suc n) m f =
    let e : sum_below n (λ c. m *ℤ f c) ≡ m *ℤ sum_below n f = sum_below-product n m f in
    let d : m *ℤ (sum_below n f +ℤ f n) ≡ (m *ℤ sum_below n f) +ℤ (m *ℤ f n) = distrib_left m (sum_below n f) (f n) in
    omega (arith, ints)

-- only one number below n counts
pub sum_below_single : (n k : ℕ) (z : ℤ) (f : ℕ → ℤ) → k < n →
    sum_below n (λ c. (if nat_eq k c then z else pos 0) *ℤ f c) ≡ z *ℤ f k
sum_below_single zero k z f h = absurd (omega arith)
sum_below_single (suc n) k z f h =
    ⊎_elim
    (λ (e : k ≡ n). at_end n k z f e)
    (λ (e : k ≡ n → ⊥). before_end n k z f e (sum_below_single n k z f (omega arith)))
    (cases_eq k n)
  where
    other : (k c : ℕ) (z : ℤ) (f : ℕ → ℤ) → (k ≡ c → ⊥) → (if nat_eq k c then z else pos 0) *ℤ f c ≡ pos 0
    other k c z f e = rw (ne_eqb k c e) (product_zero_left (f c))

    here : (k c : ℕ) (z : ℤ) (f : ℕ → ℤ) → k ≡ c → (if nat_eq k c then z else pos 0) *ℤ f c ≡ z *ℤ f k
    here k c z f e = rw (eq-eqb k c e) (ap (λ (n : ℕ). z *ℤ f n) (sym e))

    at_end : (n k : ℕ) (z : ℤ) (f : ℕ → ℤ) → k ≡ n → sum_below (suc n) (λ c. (if nat_eq k c then z else pos 0) *ℤ f c) ≡ z *ℤ f k
    at_end n k z f e =
        let d : sum_below n (λ c. (if nat_eq k c then z else pos 0) *ℤ f c) ≡ pos 0 =
        sum_below_zero n (λ c. (if nat_eq k c then z else pos 0) *ℤ f c) (λ c l. other k c z f (λ (u : k ≡ c). omega arith)) in
        let h : (if nat_eq k n then z else pos 0) *ℤ f n ≡ z *ℤ f k = here k n z f e in
        omega (arith, ints)

    before_end : (n k : ℕ) (z : ℤ) (f : ℕ → ℤ) → (k ≡ n → ⊥) →
        sum_below n (λ c. (if nat_eq k c then z else pos 0) *ℤ f c) ≡ z *ℤ f k →
        sum_below (suc n) (λ c. (if nat_eq k c then z else pos 0) *ℤ f c) ≡ z *ℤ f k
    before_end n k z f e d =
        let h : (if nat_eq k n then z else pos 0) *ℤ f n ≡ pos 0 = other k n z f e in
        omega (arith, ints)
