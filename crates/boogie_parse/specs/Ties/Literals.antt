-- Literals, and the numbers that they count.
use Rattle.std.specs.Prelude.{ℕ, ◌+◌, ◌*◌, ◌^◌, nat_lt, List, Option, None, Some, if◌then◌else◌}
use Rattle.std.specs.Char.{digit_value}
use Rattle.std.specs.Str.Parse.{digits_value}

abbrev pub value_of : List ℕ → ℕ
value_of digits = digits_value 10 digits

-- the value of a literal, where it fits
abbrev pub literal_of : List ℕ → Option ℕ
literal_of digits = if nat_lt (value_of digits) (2 ^ 127) then Some (value_of digits) else None

-- a number with one more digit at its end, where it fits
abbrev pub digit_after : ℕ → ℕ → Option ℕ
digit_after value digit =
    if nat_lt (value * 10 + digit_value digit) (2 ^ 127) then Some (value * 10 + digit_value digit) else None
