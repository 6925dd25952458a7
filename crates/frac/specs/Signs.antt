-- Signs and magnitudes.
use Rattle.std.specs.Prelude.{ℕ, ℤ, pos, negsuc, neg_ℤ, Bool, true, false}

-- one of the numbers is negative, and the other is not
abbrev pub differ_in_sign : ℤ → ℤ → Bool
differ_in_sign (pos a) (pos b) = false
differ_in_sign (pos a) (negsuc b) = true
differ_in_sign (negsuc a) (pos b) = true
differ_in_sign (negsuc a) (negsuc b) = false

-- the number of a sign and a magnitude
abbrev pub with_sign : Bool → ℕ → ℤ
with_sign true n = neg_ℤ (pos n)
with_sign false n = pos n
