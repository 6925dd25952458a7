-- The number that digits write, as std parses it.
use Rattle.std.proofs.Common.{◌≡◌, ◌≢◌, ℕ, ◌^◌, ◌<◌, true, false, List, length, Option, Some, None, Result, Ok, Err, MatchResult, MatchOption, sym, ap, ◌∙◌, subst, arith}
use Rattle.std.specs.Result.{OkIff, result_ok}
use Rattle.std.specs.Fmt.{decimal}
use Rattle.std.specs.Str.{IsUtf8}
use Rattle.std.specs.Str.Parse.{AllDigits, digits_value, ParsesUnsigned}
use Rattle.std.proofs.lemmas.Bool.{both_ways}
use Rattle.std.proofs.lemmas.Fmt.{IsAscii-from_digits}
use Rattle.std.proofs.lemmas.Str.{IsUtf8-from_ascii}
use Rattle.std.proofs.lemmas.Str.Parse.{IsNumeralModel, numerals_by_value, tells_digits, parse_digits}
use Rattle.trace_replay.specs.Ties.Pieces.{has_one_spelling}
use Rattle.trace_replay.proofs.Decimals.{AreDigits, digits_below_ten, decimal_some, decimal_value, decimal_spelling, decimal_of_digits}

-- The digits are a number of 128 bits, or none is written so.
abbrev pub IsNumberOf : List ℕ → Option ℕ → Type 0
IsNumberOf digits r = MatchOption r ((n : ℕ) → n < 2 ^ 128 → digits ≢ decimal n) (λ n. (n < 2 ^ 128) × (digits ≡ decimal n))

-- digits are UTF-8
pub digits_are_text : (ds : List ℕ) → AreDigits ds → IsUtf8 ds
digits_are_text ds h = IsUtf8-from_ascii ds (IsAscii-from_digits ds (digits_below_ten ds h))

-- digits that are not in one spelling
pub no_number : (ds : List ℕ) → has_one_spelling ds ≡ false → IsNumberOf ds None
no_number ds h n small e = both_ways (has_one_spelling ds) h (subst (λ xs. has_one_spelling xs ≡ true) (sym e) (decimal_spelling n (omega arith)))

-- std's words for digits and their number
digits_model : IsNumeralModel (AllDigits 10) (digits_value 10)
digits_model = numerals_by_value (AllDigits 10) tells_digits

from_parsed : {E : Type 0} (ds : List ℕ) (r : Result ℕ E) → OkIff r ((0 < length ds) × (digits_value 10 ds < 2 ^ 128)) (digits_value 10 ds) → AreDigits ds → has_one_spelling ds ≡ true → IsNumberOf ds (result_ok r)
from_parsed ds (Ok n) h digits one = (
  subst (λ v. v < 2 ^ 128) (sym h.1) h.0.1,
  sym (decimal_of_digits ds digits one (omega (arith, h.0.1))) ∙ ap decimal (sym h.1),
)
from_parsed ds (Err e) h digits one = λ n small same.
    let value : digits_value 10 ds ≡ n = ap (digits_value 10) same ∙ decimal_value n (omega arith) in
    let some : 0 < length ds = subst (λ xs. 0 < length xs) (sym same) (decimal_some n (omega arith)) in
    h (some, omega arith)

-- what is parsed of digits in one spelling is their number
pub number_parsed : {E : Type 0} (ds : List ℕ) (r : Result ℕ E) → ParsesUnsigned 128 10 ds r → AreDigits ds → has_one_spelling ds ≡ true → IsNumberOf ds (result_ok r)
number_parsed ds r h digits one = from_parsed ds r (parse_digits digits_model 128 ds r h (digits_below_ten ds digits)) digits one

-- what a result says by cases, where its value is known, and where it has none
pub at_value : {T E : Type 0} (r : Result T E) (P : T → Type 0) (Q : E → Type 0) (x : T) → result_ok r ≡ Some x → MatchResult r P Q → P x
at_value (Ok y) P Q x e h = let same : y ≡ x = cc in subst P same h
at_value (Err y) P Q x e h = absurd (let n : ⊥ = cc in n)

pub at_no_value : {T E : Type 0} (r : Result T E) (P : T → Type 0) (Q : E → Type 0) → result_ok r ≡ None → MatchResult r P Q → (e : E) × Q e
at_no_value (Ok y) P Q e h = absurd (let n : ⊥ = cc in n)
at_no_value (Err y) P Q e h = (y, h)
