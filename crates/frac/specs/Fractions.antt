-- Fractions in lowest terms, and the values that they stand for.
use Rattle.std.specs.Prelude.{◌≡◌, ℤ, pos, ◌*ℤ◌, neg_ℤ, ◌<ℤ◌, unsigned_abs}
use Rattle.std.specs.Int.{IsGcd}
use Rattle.std.specs.Ordering.{MatchOrdering}
use Rattle.std.specs.declared.cmp.Ordering.{Ordering}
use Rattle.math_facts.specs.Fits.{Fits}

-- a fraction as contracts see it
pub record Fraction : Type 0 where
  pub num : ℤ
  pub den : ℤ

-- in lowest terms: the denominator is positive, and 1 is the greatest common divisor of the two parts
pub record IsLowest (f : Fraction) : Type 0 where
  pub positive : pos 0 <ℤ f.den
  pub coprime : IsGcd (unsigned_abs f.num) (unsigned_abs f.den) 1

-- what a fraction of the crate keeps: it is in lowest terms, and both parts fit
pub record IsFraction (f : Fraction) : Type 0 where
  pub lowest : IsLowest f
  pub num_fits : Fits f.num
  pub den_fits : Fits f.den

-- f has the value n/d
abbrev pub IsRatio : Fraction → ℤ → ℤ → Type 0
IsRatio f n d = f.num *ℤ d ≡ n *ℤ f.den

-- no fraction has the value n/d: in lowest terms a part of it does not fit
abbrev pub IsTooLarge : ℤ → ℤ → Type 0
IsTooLarge n d = (f : Fraction) → IsFraction f → IsRatio f n d → ⊥

-- f has a whole value
abbrev pub IsWhole : Fraction → Type 0
IsWhole f = (n : ℤ) × IsRatio f n (pos 1)

-- a is below, at or above b, by their values
abbrev pub Compares : Fraction → Fraction → Ordering → Type 0
Compares a b order =
    MatchOrdering order
    ((a.num *ℤ b.den) <ℤ (b.num *ℤ a.den))
    (a.num *ℤ b.den ≡ b.num *ℤ a.den)
    ((b.num *ℤ a.den) <ℤ (a.num *ℤ b.den))

-- the fraction with the other sign
abbrev pub fraction_opposite : Fraction → Fraction
fraction_opposite f = record { num = neg_ℤ f.num; den = f.den }
