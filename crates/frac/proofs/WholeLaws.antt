-- The whole numbers next to a fraction, and those that are its value.
use Rattle.std.proofs.Common.{◌≡◌, ◌↔◌, ℕ, ◌*◌, ℤ, pos, negsuc, ◌*ℤ◌, ◌≤ℤ◌, ◌<ℤ◌, ap, sym, ◌∙◌, subst, arith}
use Rattle.std.specs.Prelude.{unsigned_abs}
use Rattle.std.specs.Int.{◌∣◌, int_div_euclid}
use Rattle.std.proofs.Math.Nat.{dvd-mul_left, eq-one_of_dvd-one}
use Rattle.std.proofs.lemmas.Int.{ints, unsigned_abs-mul}
use Rattle.std.proofs.lemmas.Nat.Gcd.{dvd_refl}
use Rattle.math_facts.proofs.Whole.{product_comm, product_one_right}
use Rattle.math_facts.proofs.Division.{floor_below}
use Rattle.frac.specs.Fractions.{Fraction, IsLowest, IsRatio, IsWhole}
use Rattle.frac.proofs.LowestTerms.{positive_abs}

-- the quotient rounded down is not above the fraction
pub floor_not_above : (n d : ℤ) → pos 0 <ℤ d → (int_div_euclid n d *ℤ d) ≤ℤ n
floor_not_above n (pos g) p =
    let k : (pos g *ℤ int_div_euclid n (pos g)) ≤ℤ n = floor_below g n (omega (arith, ints)) in
    let e : int_div_euclid n (pos g) *ℤ pos g ≡ pos g *ℤ int_div_euclid n (pos g) = product_comm (int_div_euclid n (pos g)) (pos g) in
    omega (arith, ints)
floor_not_above n (negsuc g) p = absurd (omega (arith, ints))

-- a fraction in lowest terms has a whole value exactly where its denominator is 1
pub whole_denominator : (f : Fraction) → IsLowest f → (f.den ≡ pos 1) ↔ IsWhole f
whole_denominator f h = (λ e. (f.num, ap (λ (d : ℤ). f.num *ℤ d) (sym e)), λ w. one f h w.0 w.1)
  where
    one : (f : Fraction) → IsLowest f → (n : ℤ) → IsRatio f n (pos 1) → f.den ≡ pos 1
    one f h n e =
        let m : unsigned_abs f.num ≡ unsigned_abs n * unsigned_abs f.den = ap unsigned_abs (sym (product_one_right f.num) ∙ e) ∙ unsigned_abs-mul n f.den in
        let d : unsigned_abs f.den ∣ unsigned_abs f.num =
        subst (λ (k : ℕ). unsigned_abs f.den ∣ k) (sym m) (dvd-mul_left (unsigned_abs f.den) (unsigned_abs n)) in
        sym (positive_abs f.den h.positive) ∙ ap pos (eq-one_of_dvd-one (h.coprime.2 (unsigned_abs f.den) d (dvd_refl (unsigned_abs f.den))))
