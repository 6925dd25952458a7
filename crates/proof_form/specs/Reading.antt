-- Reading from the front of bytes: a value and the bytes after it.
use Rattle.std.specs.Prelude.{ℕ, zero, suc, Bool, true, false, not, ◌&&◌, ◌||◌, nat_eq, List, [], ◌∷◌, take, drop, Option, None, Some, if◌then◌else◌}
use Rattle.std.specs.List.{prefix_len}
use Rattle.boogie_tree.specs.Names.{is_digit, is_name_byte}
use Rattle.proof_form.specs.declared.numerals.Numeral.{Numeral}
use Rattle.proof_form.specs.Outcomes.{◌>>=◌}

-- what stands after a text
abbrev pub after : List ℕ → List ℕ → Option (List ℕ)
after [] bs = Some bs
after (c ∷ text) [] = None
after (c ∷ text) (b ∷ bs) = if nat_eq b c then after text bs else None

-- a byte of a name of a procedure or of a column
abbrev pub is_word_byte : ℕ → Bool
is_word_byte b = nat_eq b 58 || is_name_byte b

-- a byte of a numeral
abbrev pub is_number_byte : ℕ → Bool
is_number_byte b = nat_eq b 45 || is_digit b

-- all bytes of that kind at the front, and the others
abbrev pub run_at : (ℕ → Bool) → List ℕ → List ℕ × List ℕ
run_at p bs = (take (prefix_len p bs) bs, drop (prefix_len p bs) bs)

-- a name with what may stand before its colons
unfoldable pub word_at : List ℕ → List ℕ × List ℕ
word_at bs = run_at is_word_byte bs

-- the numeral of these bytes
abbrev pub numeral_of : List ℕ → Numeral
numeral_of [] = record { negative = false; digits = [] }
numeral_of (b ∷ bs) = if nat_eq b 45 then record { negative = true; digits = bs } else record { negative = false; digits = b ∷ bs }

unfoldable pub number_at : List ℕ → Numeral × List ℕ
number_at bs = (numeral_of (run_at is_number_byte bs).0, (run_at is_number_byte bs).1)

-- no tree stands there
abbrev pub no_tree : List ℕ → Bool
no_tree [] = true
no_tree (b ∷ bs) = not (nat_eq b 40)

-- a space, and no tree behind it
abbrev pub item_follows : List ℕ → Bool
item_follows [] = false
item_follows (b ∷ bs) = nat_eq b 32 && no_tree bs

-- as many of something as follow while the test holds, so many at most
unfoldable pub many : {A : Type 0} → (List ℕ → Option (A × List ℕ)) → (List ℕ → Bool) → ℕ → List ℕ → Option (List A × List ℕ)
many item goes zero bs = Some ([], bs)
many item goes (suc k) bs =
    if goes bs then (item bs >>= λ x. many item goes k x.1 >>= λ xs. Some (x.0 ∷ xs.0, xs.1)) else Some ([], bs)

-- there are more bytes
abbrev pub more_follow : List ℕ → Bool
more_follow [] = false
more_follow (b ∷ bs) = true

-- what was read, if it was all
abbrev pub all_read : {A : Type 0} → A × List ℕ → Option A
all_read x = if more_follow x.1 then None else Some x.0
