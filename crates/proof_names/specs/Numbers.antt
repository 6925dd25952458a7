-- The numbers that numerals stand for.
use Rattle.std.specs.Prelude.{ℕ, ◌+◌, ◌-◌, ◌*◌, ◌^◌, ℤ, pos, neg_ℤ, nat_lt, Option, None, Some, if◌then◌else◌}
use Rattle.std.specs.Option.{option_map}
use Rattle.proof_form.specs.declared.numerals.Numeral.{Numeral}
use Rattle.proof_form.specs.NumberValues.{number}

-- the number with one decimal digit more behind it
abbrev pub with_digit : ℕ → ℕ → ℕ
with_digit n digit = n * 10 + (digit - 48)

-- the number, if it is below the limit
abbrev pub if_below : ℕ → ℕ → Option ℕ
if_below limit n = if nat_lt n limit then Some n else None

-- the number of a numeral that is not negative, if it is below the limit
abbrev pub count_in : ℕ → Numeral → Option ℕ
count_in limit n = if n.negative then None else if_below limit (number n.digits)

-- a number by which a member of a list is named: no list has 2^64 members
abbrev pub index_in : Numeral → Option ℕ
index_in n = count_in (2 ^ 64) n

-- the number of a letter, a place or a row: these have 32 bits
abbrev pub short_in : Numeral → Option ℕ
short_in n = count_in (2 ^ 32) n

-- the number with its sign
abbrev pub signed : Numeral → ℕ → ℤ
signed n m = if n.negative then neg_ℤ (pos m) else pos m

-- the number of a numeral, if it fits: its magnitude is below 2^127
abbrev pub number_in : Numeral → Option ℤ
number_in n = option_map (signed n) (if_below (2 ^ 127) (number n.digits))
