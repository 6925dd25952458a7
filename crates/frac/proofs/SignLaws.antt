-- The opposite and the reciprocal of a fraction are fractions.
use Rattle.std.proofs.Common.{◌≡◌, ◌≢◌, ℕ, zero, suc, ◌^◌, ◌<◌, ℤ, pos, negsuc, ◌-ℤ◌, ◌*ℤ◌, neg_ℤ, ◌<ℤ◌, FitsSigned, ap, refl, sym, ◌∙◌, subst, arith}
use Rattle.std.specs.Prelude.{unsigned_abs}
use Rattle.std.specs.Int.{IsGcd, w128}
use Rattle.std.proofs.lemmas.Int.{ints, fits_signed_from_abs}
use Rattle.std.proofs.lemmas.Nat.Gcd.{IsGcd-swap}
use Rattle.math_facts.specs.Fits.{Fits}
use Rattle.math_facts.proofs.Whole.{product_comm, product_assoc, product_swap, product_cancel}
use Rattle.frac.specs.Fractions.{Fraction, IsFraction, IsRatio, fraction_opposite}
use Rattle.frac.proofs.Factors.{product_right_swap, product_inner, product_pairs}

-- ---- signs

neg_abs : (z : ℤ) → unsigned_abs (neg_ℤ z) ≡ unsigned_abs z
neg_abs (pos zero) = refl
neg_abs (pos (suc n)) = refl
neg_abs (negsuc n) = refl

Fits-neg : (z : ℤ) → Fits z → Fits (neg_ℤ z)
Fits-neg z f = subst (λ (n : ℕ). n < 2 ^ 127) (sym (neg_abs z)) f

-- what the code's `-z` gives
pub zero_minus : (z : ℤ) → pos 0 -ℤ z ≡ neg_ℤ z
zero_minus z = omega (arith, ints)

-- it is a number of 128 bits
pub FitsSigned-minus : (z : ℤ) → Fits z → FitsSigned w128 (pos 0 -ℤ z)
FitsSigned-minus z f = fits_signed_from_abs w128 (pos 0 -ℤ z) (subst Fits (sym (zero_minus z)) (Fits-neg z f))

pub opposite_is_fraction : (f : Fraction) → IsFraction f → IsFraction (fraction_opposite f)
opposite_is_fraction f h = record {
  lowest = record {
    positive = h.lowest.positive;
    coprime = subst (λ (n : ℕ). IsGcd n (unsigned_abs f.den) 1) (sym (neg_abs f.num)) h.lowest.coprime;
  };
  num_fits = Fits-neg f.num h.num_fits;
  den_fits = h.den_fits;
}

-- ---- reciprocals

pub reciprocal_is_fraction : (f : Fraction) → IsFraction f → pos 0 <ℤ f.num → IsFraction (record { num = f.den; den = f.num })
reciprocal_is_fraction f h p = record {
  lowest = record {
    positive = p;
    coprime = IsGcd-swap (unsigned_abs f.num) (unsigned_abs f.den) 1 h.lowest.coprime;
  };
  num_fits = h.den_fits;
  den_fits = h.num_fits;
}

pub negative_reciprocal : (f : Fraction) → IsFraction f → f.num <ℤ pos 0 → IsFraction (record { num = pos 0 -ℤ f.den; den = pos 0 -ℤ f.num })
negative_reciprocal f h p =
    let l : pos 0 <ℤ neg_ℤ f.num = omega (arith, ints) in
    let k : IsFraction (record { num = neg_ℤ f.den; den = neg_ℤ f.num }) =
    opposite_is_fraction (record { num = f.den; den = neg_ℤ f.num }) (reciprocal_is_fraction (fraction_opposite f) (opposite_is_fraction f h) l) in
    rw (zero_minus f.den, zero_minus f.num) k

-- ---- a factor of equal value

-- x/y times n/d is x/y times m/e, where n/d and m/e are equal
pub equal_factor : (f : Fraction) (x y n d m e : ℤ) → d ≢ pos 0 → n *ℤ e ≡ m *ℤ d → IsRatio f (x *ℤ n) (y *ℤ d) → IsRatio f (x *ℤ m) (y *ℤ e)
equal_factor f x y n d m e z same h =
    product_cancel d (f.num *ℤ (y *ℤ e)) ((x *ℤ m) *ℤ f.den) z
    (product_swap d f.num (y *ℤ e) ∙ ap (λ (k : ℤ). f.num *ℤ k) (product_inner d y e) ∙ sym (product_assoc f.num (y *ℤ d) e) ∙
    ap (λ (k : ℤ). k *ℤ e) (h ∙ product_right_swap x n f.den) ∙ product_assoc (x *ℤ f.den) n e ∙ ap (λ (k : ℤ). (x *ℤ f.den) *ℤ k) same ∙
    product_pairs x f.den m d ∙ sym (product_assoc (x *ℤ m) f.den d) ∙ product_comm ((x *ℤ m) *ℤ f.den) d)
