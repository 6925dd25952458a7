-- Numerals of any length, which keep their digits.
use Rattle.std.specs.Prelude.{ℕ, Bool, true, false, not, ◌&&◌, ◌||◌, nat_eq, nat_lt, List, [], ◌∷◌, length, if◌then◌else◌}
use Rattle.std.specs.List.{list_all}
use Rattle.boogie_tree.specs.Names.{is_digit}
use Rattle.proof_form.specs.declared.numerals.Numeral.{Numeral}

-- there are digits, none is a zero in front, and 0 has no minus
abbrev pub has_one_spelling : Bool → List ℕ → Bool
has_one_spelling negative [] = false
has_one_spelling negative (d ∷ []) = not (negative && nat_eq d 48)
has_one_spelling negative (d ∷ e ∷ ds) = not (nat_eq d 48)

-- a numeral of the grammar
abbrev pub is_numeral : Numeral → Bool
is_numeral n = list_all is_digit n.digits && has_one_spelling n.negative n.digits

-- the digits, and a minus before them where it is negative
abbrev pub numeral_text : Numeral → List ℕ
numeral_text n = if n.negative then 45 ∷ n.digits else n.digits

-- it is the numeral of 0
abbrev pub is_zero_text : List ℕ → Bool
is_zero_text [] = false
is_zero_text (d ∷ []) = nat_eq d 48
is_zero_text (d ∷ e ∷ ds) = false

-- of as many digits, the first that differ decide
abbrev pub comes_before : List ℕ → List ℕ → Bool
comes_before [] es = false
comes_before (d ∷ ds) [] = false
comes_before (d ∷ ds) (e ∷ es) = nat_lt d e || (nat_eq d e && comes_before ds es)

-- fewer digits, or as many that come before
abbrev pub digits_are_less : List ℕ → List ℕ → Bool
digits_are_less ds es = nat_lt (length ds) (length es) || (nat_eq (length ds) (length es) && comes_before ds es)

-- the number of the first is below that of the second
abbrev pub numeral_is_below : Numeral → Numeral → Bool
numeral_is_below a b =
    if a.negative then (if b.negative then digits_are_less b.digits a.digits else true)
    else (if b.negative then false else digits_are_less a.digits b.digits)
