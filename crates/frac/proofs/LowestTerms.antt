-- Two fractions in lowest terms that have one value are the same.
use Rattle.std.proofs.Common.{◌≡◌, ◌≢◌, ℕ, ◌*◌, ℤ, pos, negsuc, ◌*ℤ◌, ◌<ℤ◌, ap, refl, sym, subst, ◌∙◌, arith}
use Rattle.std.specs.Prelude.{unsigned_abs}
use Rattle.std.specs.Int.{◌∣◌}
use Rattle.std.proofs.Math.Nat.{dvd-mul_left}
use Rattle.std.proofs.lemmas.Int.{ints, unsigned_abs-mul}
use Rattle.std.proofs.lemmas.Nat.Gcd.{dvd_antisymm}
use Rattle.math_facts.specs.Fits.{Fits}
use Rattle.math_facts.proofs.Whole.{product_comm, positive_cancel, product_cancel}
use Rattle.frac.specs.Fractions.{Fraction, IsLowest, IsRatio, IsTooLarge}
use Rattle.frac.proofs.Divisors.{divides_second}
use Rattle.frac.proofs.Factors.{product_right_swap, product_inner}

-- a positive number is its magnitude
pub positive_abs : (d : ℤ) → pos 0 <ℤ d → pos (unsigned_abs d) ≡ d
positive_abs (pos n) p = refl
positive_abs (negsuc n) p = absurd (omega (arith, ints))

-- the denominator divides that of each fraction of the same value
denominator_divides : (f g : Fraction) → IsLowest f → IsRatio f g.num g.den → unsigned_abs f.den ∣ unsigned_abs g.den
denominator_divides f g h e =
    let m : unsigned_abs f.num * unsigned_abs g.den ≡ unsigned_abs g.num * unsigned_abs f.den =
    sym (unsigned_abs-mul f.num g.den) ∙ ap unsigned_abs e ∙ unsigned_abs-mul g.num f.den in
    divides_second (unsigned_abs f.num) (unsigned_abs f.den) (unsigned_abs g.den) h.coprime
    (subst (λ (n : ℕ). unsigned_abs f.den ∣ n) (sym m) (dvd-mul_left (unsigned_abs f.den) (unsigned_abs g.num)))

-- so the fractions are the same
pub same_lowest : (f g : Fraction) → IsLowest f → IsLowest g → IsRatio f g.num g.den → f ≡ g
same_lowest f g h k e =
    let d : f.den ≡ g.den =
    sym (positive_abs f.den h.positive) ∙ ap pos (dvd_antisymm (denominator_divides f g h e) (denominator_divides g f k (sym e))) ∙ positive_abs g.den k.positive in
    let n : f.num ≡ g.num =
    positive_cancel g.den f.num g.num k.positive (product_comm g.den f.num ∙ e ∙ ap (λ (z : ℤ). g.num *ℤ z) d ∙ product_comm g.num g.den) in
    λ i. record { num = n i; den = d i }

-- two fractions of the value n/d have one value
pub same_ratio : (f g : Fraction) (n d : ℤ) → d ≢ pos 0 → IsRatio f n d → IsRatio g n d → IsRatio f g.num g.den
same_ratio f g n d z e k =
    product_cancel d (f.num *ℤ g.den) (g.num *ℤ f.den) z
    (product_inner d f.num g.den ∙ ap (λ (z : ℤ). z *ℤ g.den) e ∙ product_right_swap n f.den g.den ∙ ap (λ (z : ℤ). z *ℤ f.den) (sym k) ∙ sym (product_inner d g.num f.den))

-- only one fraction in lowest terms has the value n/d
pub only_lowest : (f g : Fraction) (n d : ℤ) → d ≢ pos 0 → IsLowest f → IsRatio f n d → IsLowest g → IsRatio g n d → f ≡ g
only_lowest f g n d z h e k l = same_lowest f g h k (same_ratio f g n d z e l)

-- so where a part of it does not fit, it is too large
pub too_large : (f : Fraction) (n d : ℤ) → d ≢ pos 0 → IsLowest f → IsRatio f n d → ((Fits f.num × Fits f.den) → ⊥) → IsTooLarge n d
too_large f n d z h e past g k l =
    let same : g ≡ f = only_lowest g f n d z k.lowest l h e in
    past (subst (λ (x : Fraction). Fits x.num × Fits x.den) same (k.num_fits, k.den_fits))
