-- Two numbers divided by their greatest common divisor.
use Rattle.std.specs.Prelude.{◌≡◌, ℤ, pos, ◌*ℤ◌, ◌<ℤ◌, unsigned_abs}
use Rattle.std.specs.Int.{IsGcd}

-- g is the greatest common divisor of a and b, and p and q are the quotients
pub record Reduces (a b g p q : ℤ) : Type 0 where
  pub positive : pos 0 <ℤ g
  pub divisor : IsGcd (unsigned_abs a) (unsigned_abs b) (unsigned_abs g)
  pub first : g *ℤ p ≡ a
  pub second : g *ℤ q ≡ b
