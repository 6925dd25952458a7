-- Two numbers divided by their greatest common divisor.
use Rattle.std.proofs.Common.{◌≡◌, ℕ, ◌*◌, ◌<◌, ◌≤◌, ℤ, pos, ◌*ℤ◌, ◌<ℤ◌, ap, sym, ◌∙◌, subst, arith}
use Rattle.std.specs.Prelude.{unsigned_abs}
use Rattle.std.specs.Int.{IsGcd, ◌∣◌}
use Rattle.std.proofs.Math.Nat.{dvd-mul_left, dvd-mul_right, mul-le-mul_right}
use Rattle.std.proofs.lemmas.Int.{ints, unsigned_abs-mul}
use Rattle.math_facts.specs.Fits.{Fits}
use Rattle.math_facts.proofs.Whole.{product_zero_right, product_strict, cancel_strict}
use Rattle.frac.proofs.Divisors.{coprime_quotients}
use Rattle.frac.specs.Ties.Reduced.{Reduces}
use Rattle.frac.proofs.Reducing.{positive_nonzero}

-- the magnitude of a product
pub product_abs : (g p a : ℤ) → g *ℤ p ≡ a → unsigned_abs a ≡ unsigned_abs g * unsigned_abs p
product_abs g p a e = ap unsigned_abs (sym e) ∙ unsigned_abs-mul g p

-- a factor divides the product
pub first_divides : (g p a : ℤ) → g *ℤ p ≡ a → unsigned_abs g ∣ unsigned_abs a
first_divides g p a e = subst (λ (n : ℕ). unsigned_abs g ∣ n) (sym (product_abs g p a e)) (dvd-mul_right (unsigned_abs g) (unsigned_abs p))

pub second_divides : (g p a : ℤ) → g *ℤ p ≡ a → unsigned_abs p ∣ unsigned_abs a
second_divides g p a e = subst (λ (n : ℕ). unsigned_abs p ∣ n) (sym (product_abs g p a e)) (dvd-mul_left (unsigned_abs p) (unsigned_abs g))

-- the quotients share nothing
pub quotients_coprime : (a b g p q : ℤ) → Reduces a b g p q → IsGcd (unsigned_abs p) (unsigned_abs q) 1
quotients_coprime a b g p q s =
    coprime_quotients (unsigned_abs a) (unsigned_abs b) (unsigned_abs g) (unsigned_abs p) (unsigned_abs q) (positive_nonzero g s.positive) s.divisor
    (product_abs g p a s.first) (product_abs g q b s.second)

-- a positive number has a positive quotient
pub positive_quotient : (g p a : ℤ) → pos 0 <ℤ g → g *ℤ p ≡ a → pos 0 <ℤ a → pos 0 <ℤ p
positive_quotient g p a l e h = let z : g *ℤ pos 0 ≡ pos 0 = product_zero_right g in cancel_strict g (pos 0) p (omega (arith, ints)) (omega (arith, ints))

-- a product of positive numbers is positive
pub positive_product : (a b : ℤ) → pos 0 <ℤ a → pos 0 <ℤ b → pos 0 <ℤ (a *ℤ b)
positive_product a b p q = let k : (a *ℤ pos 0) <ℤ (a *ℤ b) = product_strict a (pos 0) b p q in let z : a *ℤ pos 0 ≡ pos 0 = product_zero_right a in omega (arith, ints)

-- a quotient of a number that fits fits
pub quotient_fits : (g p a : ℤ) → pos 0 <ℤ g → g *ℤ p ≡ a → Fits a → Fits p
quotient_fits g p a l e f =
    let m : unsigned_abs a ≡ unsigned_abs g * unsigned_abs p = product_abs g p a e in
    let n : 0 < unsigned_abs g = positive_nonzero g l in
    let k : 1 * unsigned_abs p ≤ unsigned_abs g * unsigned_abs p = mul-le-mul_right (unsigned_abs p) n in
    omega arith
