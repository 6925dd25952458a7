-- A quotient n/d is brought to lowest terms by the greatest common divisor.
use Rattle.std.proofs.Common.{◌≡◌, ◌≢◌, ℕ, zero, suc, ◌*◌, ◌/◌, ◌%◌, ◌^◌, ◌<◌, ◌≤◌, Bool, true, false, ℤ, pos, negsuc, ◌*ℤ◌, neg_ℤ, ◌<ℤ◌, FitsSigned, ap, refl, sym, ◌∙◌, subst, arith}
use Rattle.std.specs.Prelude.{unsigned_abs, int_div}
use Rattle.std.specs.Int.{IsGcd, ◌∣◌, int_div_euclid, w128}
use Rattle.std.proofs.Math.Nat.{mul-div_cancel', pos_of_dvd_of_pos, le_of_dvd, mod-eq-zero_of_dvd, dvd-mul_left}
use Rattle.std.proofs.lemmas.Int.{ints}
use Rattle.math_facts.proofs.Whole.{product_neg_left, product_neg_right, product_neg_neg, product_one_left}
use Rattle.math_facts.proofs.Division.{exact, exact-int_div}
use Rattle.frac.specs.Signs.{differ_in_sign, with_sign}
use Rattle.frac.specs.Fractions.{Fraction, IsLowest, IsFraction, IsRatio, IsTooLarge}
use Rattle.frac.specs.Ties.Reduced.{Reduces}
use Rattle.frac.proofs.Divisors.{coprime_quotients}
use Rattle.frac.proofs.LowestTerms.{too_large}

-- ---- magnitudes

-- only 0 has the magnitude 0
pub nonzero_abs : (z : ℤ) → z ≢ pos 0 → 0 < unsigned_abs z
nonzero_abs (pos zero) h = absurd (h refl)
nonzero_abs (pos (suc n)) h = omega arith
nonzero_abs (negsuc n) h = omega arith

pub positive_nonzero : (z : ℤ) → pos 0 <ℤ z → 0 < unsigned_abs z
positive_nonzero (pos n) h = omega (arith, ints)
positive_nonzero (negsuc n) h = omega arith

-- a positive number of 128 bits is below 2^127
pub positive_below : (z : ℤ) → pos 0 <ℤ z → FitsSigned w128 z → unsigned_abs z < 2 ^ 127
positive_below (pos n) h f = f.sfits
positive_below (negsuc n) h f = absurd (omega (arith, ints))

with_sign_abs : (s : Bool) (n : ℕ) → unsigned_abs (with_sign s n) ≡ n
with_sign_abs true zero = refl
with_sign_abs true (suc n) = refl
with_sign_abs false n = refl

-- a greatest common divisor with a number that is not 0 is not 0
pub positive_gcd : (a b g : ℕ) → 0 < b → IsGcd a b g → 0 < g
positive_gcd a b g p h = pos_of_dvd_of_pos h.1 p

-- and it is at most that number
pub gcd_at_most : (a b g : ℕ) → 0 < b → IsGcd a b g → g ≤ b
gcd_at_most a b g p h = le_of_dvd p h.1

-- ---- exact quotients

-- a quotient without rest is the same by each rounding, and gives the number back
pub exact_quotient : (a d : ℤ) → pos 0 <ℤ d → unsigned_abs d ∣ unsigned_abs a → (int_div a d ≡ int_div_euclid a d) × (d *ℤ int_div_euclid a d ≡ a)
exact_quotient a (pos g) p h =
    let l : 0 < g = omega (arith, ints) in
    let e : unsigned_abs a % g ≡ 0 = mod-eq-zero_of_dvd g h in
    (exact-int_div g a l e, exact g a l e)
exact_quotient a (negsuc g) p h = absurd (omega (arith, ints))

-- ---- n/d in lowest terms

-- n/d divided by g
abbrev pub reduced : ℤ → ℤ → ℕ → Fraction
reduced n d g = record { num = with_sign (differ_in_sign n d) (unsigned_abs n / g); den = pos (unsigned_abs d / g) }

cross_products : (g p q a b : ℕ) → a ≡ g * p → b ≡ g * q → pos p *ℤ pos b ≡ pos a *ℤ pos q
cross_products g p q a b e f =
    ap pos (ap (λ (n : ℕ). p * n) f ∙ (let k : p * (g * q) ≡ (g * p) * q = omega arith in k) ∙ ap (λ (n : ℕ). n * q) (sym e))

signed_ratio : (n d : ℤ) (g p q : ℕ) → unsigned_abs n ≡ g * p → unsigned_abs d ≡ g * q → with_sign (differ_in_sign n d) p *ℤ d ≡ n *ℤ pos q
signed_ratio (pos a) (pos b) g p q e f = cross_products g p q a b e f
signed_ratio (pos a) (negsuc b) g p q e f = product_neg_neg (pos p) (pos (suc b)) ∙ cross_products g p q a (suc b) e f
signed_ratio (negsuc a) (pos b) g p q e f =
    product_neg_left (pos p) (pos b) ∙ ap neg_ℤ (cross_products g p q (suc a) b e f) ∙ sym (product_neg_left (pos (suc a)) (pos q))
signed_ratio (negsuc a) (negsuc b) g p q e f =
    product_neg_right (pos p) (pos (suc b)) ∙ ap neg_ℤ (cross_products g p q (suc a) (suc b) e f) ∙ sym (product_neg_left (pos (suc a)) (pos q))

-- it has the value n/d
pub reduced_ratio : (n d : ℤ) (g : ℕ) → IsGcd (unsigned_abs n) (unsigned_abs d) g → IsRatio (reduced n d g) n d
reduced_ratio n d g h =
    signed_ratio n d g (unsigned_abs n / g) (unsigned_abs d / g) (sym (mul-div_cancel' g h.0)) (sym (mul-div_cancel' g h.1))

-- and is in lowest terms
pub reduced_lowest : (n d : ℤ) (g : ℕ) → d ≢ pos 0 → IsGcd (unsigned_abs n) (unsigned_abs d) g → IsLowest (reduced n d g)
reduced_lowest n d g z h =
    let s : Bool = differ_in_sign n d in
    let l : 0 < g = positive_gcd (unsigned_abs n) (unsigned_abs d) g (nonzero_abs d z) h in
    let m : g * (unsigned_abs n / g) ≡ unsigned_abs n = mul-div_cancel' g h.0 in
    let k : g * (unsigned_abs d / g) ≡ unsigned_abs d = mul-div_cancel' g h.1 in
    let q : 0 < unsigned_abs d / g = positive_quotient g (unsigned_abs d / g) (unsigned_abs d) k (nonzero_abs d z) in
    record {
      positive = omega (arith, ints);
      coprime = subst (λ (x : ℕ). IsGcd x (unsigned_abs d / g) 1) (sym (with_sign_abs s (unsigned_abs n / g)))
          (coprime_quotients (unsigned_abs n) (unsigned_abs d) g (unsigned_abs n / g) (unsigned_abs d / g) l h (sym m) (sym k));
    }
  where
    positive_quotient : (g q d : ℕ) → g * q ≡ d → 0 < d → 0 < q
    positive_quotient g zero d e p = absurd (omega arith)
    positive_quotient g (suc q) d e p = omega arith

-- both parts fit where the quotients of the magnitudes do
pub reduced_is_fraction : (n d : ℤ) (g : ℕ) → d ≢ pos 0 → IsGcd (unsigned_abs n) (unsigned_abs d) g →
    unsigned_abs n / g < 2 ^ 127 → unsigned_abs d / g < 2 ^ 127 → IsFraction (reduced n d g)
reduced_is_fraction n d g z h p q = record {
  lowest = reduced_lowest n d g z h;
  num_fits = subst (λ (x : ℕ). x < 2 ^ 127) (sym (with_sign_abs (differ_in_sign n d) (unsigned_abs n / g))) p;
  den_fits = q;
}

-- and where one of them does not, n/d is too large
pub reduced_too_large : (n d : ℤ) (g : ℕ) → d ≢ pos 0 → IsGcd (unsigned_abs n) (unsigned_abs d) g →
    ((unsigned_abs n / g < 2 ^ 127) × (unsigned_abs d / g < 2 ^ 127) → ⊥) → IsTooLarge n d
reduced_too_large n d g z h past =
    too_large (reduced n d g) n d z (reduced_lowest n d g z h) (reduced_ratio n d g h)
    (λ f. past (subst (λ (x : ℕ). x < 2 ^ 127) (with_sign_abs (differ_in_sign n d) (unsigned_abs n / g)) f.0, f.1))

-- ---- a number and 1

one_divides : (n : ℕ) → 1 ∣ n
one_divides n = subst (λ (m : ℕ). 1 ∣ m) (let e : n * 1 ≡ n = omega arith in e) (dvd-mul_left 1 n)

-- they share no divisor but 1
pub reduced_by_one : (a : ℤ) → Reduces a (pos 1) (pos 1) a (pos 1)
reduced_by_one a = record {
  positive = omega (arith, ints);
  divisor = (one_divides (unsigned_abs a), one_divides 1, λ d e f. f);
  first = product_one_left a;
  second = product_one_left (pos 1);
}
