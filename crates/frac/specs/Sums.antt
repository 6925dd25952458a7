-- The numbers that a sum and a comparison form (Knuth, 1969).
use Rattle.std.specs.Prelude.{ℕ, ℤ, pos, ◌+ℤ◌, ◌*ℤ◌, unsigned_abs}
use Rattle.std.specs.Int.{IsGcd, int_div_euclid}
use Rattle.math_facts.specs.Fits.{Fits}
use Rattle.frac.specs.Fractions.{Fraction}

-- g is the greatest common divisor of the denominators
abbrev pub IsDenominatorGcd : Fraction → Fraction → ℕ → Type 0
IsDenominatorGcd a b g = IsGcd (unsigned_abs a.den) (unsigned_abs b.den) g

-- the numerator of a times the other denominator, which g divides
abbrev pub cross_product : ℕ → Fraction → Fraction → ℤ
cross_product g a b = a.num *ℤ int_div_euclid b.den (pos g)

-- the sum of both cross products
abbrev pub cross_sum : ℕ → Fraction → Fraction → ℤ
cross_sum g a b = cross_product g a b +ℤ cross_product g b a

-- the numbers that a comparison forms fit
abbrev pub ComparisonFits : Fraction → Fraction → Type 0
ComparisonFits a b = (g : ℕ) → IsDenominatorGcd a b g → Fits (cross_product g a b) × Fits (cross_product g b a)

-- the numbers that a sum forms fit: those of a comparison, their sum, and the product of the denominators, of which
-- one is divided by g, and the other by what g shares with the sum
pub record SumFits (a b : Fraction) : Type 0 where
  pub products : ComparisonFits a b
  pub sum : (g : ℕ) → IsDenominatorGcd a b g → Fits (cross_sum g a b)
  pub denominator : (g h : ℕ) → IsDenominatorGcd a b g → IsGcd (unsigned_abs (cross_sum g a b)) g h →
      Fits (int_div_euclid a.den (pos g) *ℤ int_div_euclid b.den (pos h))
