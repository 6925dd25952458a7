-- The numbers that numerals write.
use Rattle.std.specs.Prelude.{ℕ, ◌+◌, ◌-◌, ◌*◌, ◌^◌, ℤ, pos, neg_ℤ, List, [], ◌∷◌, length, if◌then◌else◌}
use Rattle.proof_form.specs.declared.numerals.Numeral.{Numeral}

-- the number of digits in base ten
abbrev pub number : List ℕ → ℕ
number [] = 0
number (d ∷ ds) = 10 ^ length ds * (d - 48) + number ds

-- the number of a numeral
abbrev pub value : Numeral → ℤ
value n = if n.negative then neg_ℤ (pos (number n.digits)) else pos (number n.digits)
