-- How names are spelled: those of the language, which a text may have, and those that the program makes, which none has.
use Rattle.std.specs.Prelude.{ℕ, Bool, false, not, ◌&&◌, ◌||◌, ◌==◌, nat_le, List, [], ◌∷◌}
use Rattle.std.specs.List.{list_all}

abbrev pub is_digit : ℕ → Bool
is_digit b = nat_le 48 b && nat_le b 57

-- an ASCII letter
abbrev pub is_letter : ℕ → Bool
is_letter b = (nat_le 97 b && nat_le b 122) || (nat_le 65 b && nat_le b 90)

-- a mark that a name may have: _ . $ # ' ` ~ ^ ? \
abbrev pub is_name_mark : ℕ → Bool
is_name_mark b = b == 95 || b == 46 || b == 36 || b == 35 || b == 39 || b == 96 || b == 126 || b == 94 || b == 63 || b == 92

-- a byte of a name
abbrev pub is_name_byte : ℕ → Bool
is_name_byte b = is_letter b || is_digit b || is_name_mark b

-- a name of the language: bytes of a name, of which the first is no digit
abbrev pub is_name : List ℕ → Bool
is_name [] = false
is_name (b ∷ bs) = not (is_digit b) && list_all is_name_byte (b ∷ bs)

-- one digit or more
abbrev pub are_digits : List ℕ → Bool
are_digits [] = false
are_digits (b ∷ bs) = list_all is_digit (b ∷ bs)

-- digits, or a name of the language
abbrev pub is_name_or_number : List ℕ → Bool
is_name_or_number bs = are_digits bs || is_name bs

-- the letter that a made name begins with: `h` of a hidden local, `m` of a part
abbrev pub is_made_mark : ℕ → Bool
is_made_mark b = b == 104 || b == 109

-- a name that the program makes: `h:` or `m:`, followed by digits or a name of the language
abbrev pub is_made : List ℕ → Bool
is_made (a ∷ b ∷ bs) = is_made_mark a && (b == 58 && is_name_or_number bs)
is_made bs = false

-- a name of either kind
abbrev pub is_spelled : List ℕ → Bool
is_spelled bs = is_name bs || is_made bs
