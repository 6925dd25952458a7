-- Numbers that texts are.
use Rattle.std.specs.Prelude.{◌≡◌, ℕ, ◌<◌, ◌^◌, List, ℤ, pos, FitsSigned}
use Rattle.std.specs.Str.Parse.{IsNumeral, digits_value, signed_digits_value, without_leading_plus, without_leading_sign}
use Rattle.std.specs.Int.{w128}

-- n is the number that the digits write, before which a plus may stand, and 0 where they write none below 2^32
pub record IsNumberOf (text : List ℕ) (n : ℕ) : Type 0 where
  pub is : IsNumeral 10 (without_leading_plus text) → digits_value 10 (without_leading_plus text) < 2 ^ 32 → n ≡ digits_value 10 (without_leading_plus text)
  pub none : ¬ (IsNumeral 10 (without_leading_plus text) × (digits_value 10 (without_leading_plus text) < 2 ^ 32)) → n ≡ 0

-- z is the number that the digits write, before which a plus or a minus may stand, and 0 where they write none of 128 bits
pub record IsValueOf (text : List ℕ) (z : ℤ) : Type 0 where
  pub is : IsNumeral 10 (without_leading_sign text) → FitsSigned w128 (signed_digits_value 10 text) → z ≡ signed_digits_value 10 text
  pub none : ¬ (IsNumeral 10 (without_leading_sign text) × FitsSigned w128 (signed_digits_value 10 text)) → z ≡ pos 0
