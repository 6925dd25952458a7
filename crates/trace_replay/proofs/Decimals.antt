-- Decimal numbers of up to 64 digits.
use Rattle.std.proofs.Common.{◌≡◌, ◌≢◌, ℕ, ◌+◌, ◌*◌, ◌/◌, ◌%◌, ◌^◌, ◌<◌, ◌≤◌, true, not, List, [], ◌∷◌, ◌++◌, length, get_or, refl, sym, ap, ◌∙◌, arith, length-append, append_assoc}
use Rattle.std.specs.List.{AllByRecursion}
use Rattle.std.specs.Char.{digit_value}
use Rattle.std.specs.Fmt.{decimal}
use Rattle.std.specs.Str.Parse.{AllDigits, digits_value, digits_value_after}
use Rattle.std.proofs.lemmas.Bool.{ne_eqb, eqb-false, not-true}
use Rattle.std.proofs.lemmas.Bool.Decides.{nat_tests}
use Rattle.std.proofs.lemmas.Fmt.{decimal_digit, decimal_step_wide, decimal_by_steps_wide, decimal_is_IsNumeral_wide}
use Rattle.std.proofs.lemmas.List.{append-nil, get_or_append_left}
use Rattle.std.proofs.lemmas.Str.Parse.{digit_from_value}
use Rattle.boogie_tree.specs.Names.{is_digit}
use Rattle.trace_replay.specs.Ties.Pieces.{has_one_spelling}

-- each byte is a digit
abbrev pub AreDigits : List ℕ → Type 0
AreDigits ds = AllByRecursion (λ d. is_digit d ≡ true) ds

-- digits are std's digits in base 10
pub digit_below_ten : (d : ℕ) → is_digit d ≡ true → digit_value d < 10
digit_below_ten d h = grind (arith, nat_tests)

pub digits_below_ten : (ds : List ℕ) → AreDigits ds → AllDigits 10 ds
digits_below_ten [] h = tt
digits_below_ten (d ∷ ds) h = (digit_below_ten d h.0, digits_below_ten ds h.1)

-- and back
digit_from : (d : ℕ) → digit_value d < 10 → is_digit d ≡ true
digit_from d h = let range = digit_from_value d h in grind (arith, nat_tests)

digits_from : (ds : List ℕ) → AllDigits 10 ds → AreDigits ds
digits_from [] h = tt
digits_from (d ∷ ds) h = (digit_from d h.0, digits_from ds h.1)

-- The digits of a number
module _ (n : ℕ) (h : n < 10 ^ 64) where
  pub decimal_digits : AreDigits (decimal n)
  decimal_digits = digits_from (decimal n) (decimal_is_IsNumeral_wide n h).0.1

  pub decimal_some : 0 < length (decimal n)
  decimal_some = (decimal_is_IsNumeral_wide n h).0.0

  pub decimal_value : digits_value 10 (decimal n) ≡ n
  decimal_value = (decimal_is_IsNumeral_wide n h).1

pub decimal_injective : (m n : ℕ) → m < 10 ^ 64 → n < 10 ^ 64 → decimal m ≡ decimal n → m ≡ n
decimal_injective m n p q e = sym (decimal_value m p) ∙ ap (digits_value 10) e ∙ decimal_value n q

-- The first digit is no zero, where the number is none, and the number is none, where it has several digits.
abbrev FirstIsNoZero : ℕ → List ℕ → Type 0
FirstIsNoZero n ds = (0 < length ds) × (0 < n → get_or ds 0 0 ≢ 48) × (1 < length ds → 0 < n)

first_is_no_zero : (n : ℕ) → n < 10 ^ 64 → FirstIsNoZero n (decimal n)
first_is_no_zero = decimal_by_steps_wide FirstIsNoZero
    (λ m l. (omega arith, λ a e. omega arith, λ more. omega arith))
    (λ m ds l h. (omega (arith, length-append ds ((48 + m % 10) ∷ [])), λ a. rw (get_or_append_left ds ((48 + m % 10) ∷ []) 0 0 h.0) (h.1 (omega arith)), λ more. omega arith))

one_spelling_of : (n : ℕ) (ds : List ℕ) → ds ≡ decimal n → n < 10 ^ 64 → has_one_spelling ds ≡ true
one_spelling_of n [] e h = absurd (let some = decimal_some n h in let none : length (decimal n) ≡ 0 = sym (ap length e) in omega arith)
one_spelling_of n (d ∷ []) e h = refl
one_spelling_of n (d ∷ c ∷ ds) e h = ap not (ne_eqb d 48 (λ z. first z))
  where
    first : d ≡ 48 → ⊥
    first z =
        let facts = first_is_no_zero n h in
        let several : 1 < length (decimal n) = omega (arith, ap length e) in
        facts.1 (facts.2 several) (sym (ap (λ xs. get_or xs 0 0) e) ∙ z)

pub decimal_spelling : (n : ℕ) → n < 10 ^ 64 → has_one_spelling (decimal n) ≡ true
decimal_spelling n h = one_spelling_of n (decimal n) refl h

-- Digits in their one spelling are those of their number.

le_value_after : (n : ℕ) (ds : List ℕ) → n ≤ digits_value_after 10 n ds
le_value_after n [] = omega arith
le_value_after n (c ∷ cs) = omega (arith, le_value_after (n * 10 + digit_value c) cs)

-- a digit is its value above that of zero
digit_is : (d : ℕ) → is_digit d ≡ true → 48 + digit_value d ≡ d
digit_is d h = grind (arith, nat_tests)

decimal_value_after : (n : ℕ) (ds : List ℕ) → 0 < n → AreDigits ds → digits_value_after 10 n ds < 10 ^ 64 → decimal (digits_value_after 10 n ds) ≡ decimal n ++ ds
decimal_value_after n [] some d small = sym (append-nil (decimal n))
decimal_value_after n (c ∷ cs) some d small =
    let m : ℕ = n * 10 + digit_value c in
    let is = digit_is c d.0 in
    let low = digit_below_ten c d.0 in
    let front : m / 10 ≡ n = omega arith in
    let end : 48 + m % 10 ≡ c = omega arith in
    decimal_value_after m cs (omega arith) d.1 small
    ∙ ap (λ x. x ++ cs) (decimal_step_wide m (omega arith) (omega (arith, le_value_after m cs)) ∙ (λ i. decimal (front i) ++ (end i ∷ [])))
    ∙ append_assoc (decimal n) (c ∷ []) cs

one_digit : (d : ℕ) → is_digit d ≡ true → decimal (0 * 10 + digit_value d) ≡ d ∷ []
one_digit d h =
    let is = digit_is d h in
    let low = digit_below_ten d h in
    decimal_digit (0 * 10 + digit_value d) (omega arith) ∙ ap (λ x. x ∷ []) (omega arith)

pub decimal_of_digits : (ds : List ℕ) → AreDigits ds → has_one_spelling ds ≡ true → digits_value 10 ds < 10 ^ 64 → decimal (digits_value 10 ds) ≡ ds
decimal_of_digits [] d one small = absurd (let n : ⊥ = cc in n)
decimal_of_digits (c ∷ []) d one small = one_digit c d.0
decimal_of_digits (c ∷ e ∷ ds) d one small =
    let is = digit_is c d.0 in
    let no : c ≢ 48 = eqb-false c 48 (not-true _ one) in
    decimal_value_after (0 * 10 + digit_value c) (e ∷ ds) (omega arith) d.1 small ∙ ap (λ x. x ++ (e ∷ ds)) (one_digit c d.0)
