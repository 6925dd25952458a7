-- The value of a literal, read digit by digit.
use Rattle.std.proofs.Common.{◌≡◌, ℕ, ◌+◌, ◌*◌, ◌<◌, ◌≤◌, List, [], ◌∷◌, None, length, drop, get_or, arith}
use Rattle.std.specs.Char.{digit_value}
use Rattle.std.specs.Str.Parse.{digits_value_after}
use Rattle.std.proofs.lemmas.Bool.Decides.{nat_tests}
use Rattle.std.proofs.lemmas.List.{at_drop_more}
use Rattle.boogie_parse.specs.Ties.Literals.{value_of}
use Rattle.boogie_parse.specs.Ties.Literals.{literal_of, digit_after}

-- more digits make no number smaller
pub digits_value_after-ge : (n : ℕ) (digits : List ℕ) → n ≤ digits_value_after 10 n digits
digits_value_after-ge n [] = omega arith
digits_value_after-ge n (d ∷ ds) = omega (arith, digits_value_after-ge (n * 10 + digit_value d) ds)

-- a number that passes the limit at some digit is past it in the end
pub literal_too_large : (n : ℕ) (digits : List ℕ) (i : ℕ) → i < length digits →
    digits_value_after 10 n (drop i digits) ≡ value_of digits → digit_after n (get_or digits i 0) ≡ None → literal_of digits ≡ None
literal_too_large n digits i l rest none =
    let m : ℕ = n * 10 + digit_value (get_or digits i 0) in
    let more : digits_value_after 10 n (drop i digits) ≡ digits_value_after 10 m (drop (i + 1) digits) =
    at_drop_more (digits_value_after 10 n) digits i 0 l in
    let grows : m ≤ value_of digits = omega (arith, digits_value_after-ge m (drop (i + 1) digits)) in
    grind (arith, nat_tests)
