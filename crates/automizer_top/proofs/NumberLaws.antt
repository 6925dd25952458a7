-- Which numbers are read of words.
use Rattle.std.proofs.Common.{◌≡◌, ℕ, zero, suc, ◌<◌, ◌≤◌, ◌^◌, ◌∙◌, List, length, get_or, true, false, None, Some, Result, Ok, Err, ap, sym, subst, arith, inl, inr}
use Rattle.std.specs.Prelude.{◌≢◌, ◌==◌}
use Rattle.std.specs.Fmt.{decimal}
use Rattle.std.specs.Int.{IsInRange}
use Rattle.std.specs.Str.{bytes_eq}
use Rattle.std.specs.Str.Parse.{AllDigits, digits_value, ParsesUnsigned}
use Rattle.std.proofs.lemmas.Bool.{and_parts, and_from, leb-true, le-leb, cond-true, cond-false, false_from_ne_true, or_cases, or_parts, and_cases, eqb-true, eqb-false, ltb-true, ltb-false}
use Rattle.std.proofs.lemmas.Fmt.{decimal_is_IsNumeral, decimal_digit, first_decimal, decimal-digits_value}
use Rattle.std.proofs.lemmas.Result.{OkIff-at_ok, OkIff-at_err}
use Rattle.std.proofs.lemmas.Slice.Eq.{bytes_eq-Decides}
use Rattle.std.proofs.lemmas.Str.Parse.{IsNumeralModel, numerals_by_value, tells_digits, not_in_digits, parse_plain}
use Rattle.automizer_top.specs.CommandLine.{is_number_in, number_in_bounds, is_padded}

own : IsNumeralModel (AllDigits 10) (digits_value 10)
own = numerals_by_value (AllDigits 10) tells_digits

-- the text does not spell a number in the range
none_of : (least most : ℕ) (text : List ℕ) →
    (decimal (digits_value 10 text) ≡ text → least ≤ digits_value 10 text → digits_value 10 text ≤ most → ⊥) → None ≡ number_in_bounds least most text
none_of least most text never =
    let v = digits_value 10 text in
    sym (cond-false (is_number_in least most text) (Some v) None (false_from_ne_true (is_number_in least most text) (λ e.
    let p = and_parts (bytes_eq (decimal v) text) _ e in
    let q = and_parts _ _ p.1 in
    never ((bytes_eq-Decides (decimal v) text).0 p.0) (leb-true least v q.0) (leb-true v most q.1))))

-- it does
some_of : (least most : ℕ) (text : List ℕ) → decimal (digits_value 10 text) ≡ text → least ≤ digits_value 10 text → digits_value 10 text ≤ most →
    Some (digits_value 10 text) ≡ number_in_bounds least most text
some_of least most text s l m =
    let v = digits_value 10 text in
    sym (cond-true (is_number_in least most text) (Some v) None
    (and_from (bytes_eq (decimal v) text) _ ((bytes_eq-Decides (decimal v) text).1 s) (and_from _ _ (le-leb least v l) (le-leb v most m))))

-- what `decimal` writes are digits
digits_of : (text : List ℕ) (most : ℕ) → most < 2 ^ 32 → decimal (digits_value 10 text) ≡ text → digits_value 10 text ≤ most → AllDigits 10 text × (0 < length text)
digits_of text most small s m =
    let d = decimal_is_IsNumeral (digits_value 10 text) (omega (arith, small, m)) in
    (subst (AllDigits 10) s d.0.1, subst (λ (t : List ℕ). 0 < length t) s d.0.0)

plus_is_no_digit : IsInRange 48 57 43 → ⊥
plus_is_no_digit h = omega (arith, h.0)

empty_is_none : (least most : ℕ) (text : List ℕ) → most < 2 ^ 32 → length text ≡ 0 → None ≡ number_in_bounds least most text
empty_is_none least most text small e = none_of least most text (λ s l m. let d = digits_of text most small s m in omega (arith, e, d.1))

plus_is_none : (least most : ℕ) (text : List ℕ) → most < 2 ^ 32 → get_or text 0 0 ≡ 43 → None ≡ number_in_bounds least most text
plus_is_none least most text small plus = none_of least most text (λ s l m.
    let d = digits_of text most small s m in
    not_in_digits own text 43 d.0 plus_is_no_digit 0 d.1 plus)

zero_alone : (v : ℕ) (text : List ℕ) → v < 2 ^ 64 → decimal v ≡ text → get_or text 0 0 ≡ 48 → 1 < length text → ⊥
zero_alone zero text small s first longer =
    let one : length text ≡ 1 = ap length (sym s) ∙ ap length (decimal_digit 0 (omega arith)) in
    omega (arith, one, longer)
zero_alone (suc v) text small s first longer =
    let above : 48 < get_or text 0 0 = subst (λ (t : List ℕ). 48 < get_or t 0 0) s (first_decimal (suc v) (omega arith) small) in
    omega (arith, above, first)

zero_is_none : (least most : ℕ) (text : List ℕ) → most < 2 ^ 32 → get_or text 0 0 ≡ 48 → 1 < length text → None ≡ number_in_bounds least most text
zero_is_none least most text small first longer = none_of least most text (λ s l m.
    zero_alone (digits_value 10 text) text (omega (arith, small, m)) s first longer)

pub padded_is_none : (least most : ℕ) (text : List ℕ) → most < 2 ^ 32 → is_padded text ≡ true → None ≡ number_in_bounds least most text
padded_is_none least most text small padded = elim (or_cases (length text == 0) _ padded) [
  | inl e ↦ empty_is_none least most text small (eqb-true (length text) 0 e)
  | inr rest ↦ elim (or_cases (get_or text 0 0 == 43) _ rest) [
    | inl e ↦ plus_is_none least most text small (eqb-true (get_or text 0 0) 43 e)
    | inr both ↦
        let p = and_parts (get_or text 0 0 == 48) _ both in
        zero_is_none least most text small (eqb-true (get_or text 0 0) 48 p.0) (ltb-true 1 (length text) p.1)
  ]
]

record IsUnpadded (text : List ℕ) : Type 0 where
  pub plus : get_or text 0 0 ≢ 43
  pub alone : get_or text 0 0 ≡ 48 → length text ≤ 1

unpadded : (text : List ℕ) → is_padded text ≡ false → IsUnpadded text
unpadded text plain =
    let p = or_parts (length text == 0) _ plain in
    let q = or_parts (get_or text 0 0 == 43) _ p.1 in record {
      plus = eqb-false (get_or text 0 0) 43 q.0;
      alone = λ e. elim (and_cases (get_or text 0 0 == 48) _ q.1) [
        | inl other ↦ absurd (eqb-false (get_or text 0 0) 48 other e)
        | inr short ↦ ltb-false 1 (length text) short
      ];
    }

pub unread_is_none : {E : Type 0} (least most : ℕ) (text : List ℕ) (r : Result ℕ E) (e : E) → most < 2 ^ 32 → is_padded text ≡ false → ParsesUnsigned 32 10 text r →
    r ≡ Err e → None ≡ number_in_bounds least most text
unread_is_none least most text r e small plain h is = none_of least most text (λ s l m.
    let d = digits_of text most small s m in
    OkIff-at_err r _ _ e (parse_plain own 32 text r h (unpadded text plain).plus) is (d.0, d.1, omega (arith, small, m)))

pub outside_is_none : {E : Type 0} (least most : ℕ) (text : List ℕ) (r : Result ℕ E) (n : ℕ) → is_padded text ≡ false → ParsesUnsigned 32 10 text r → r ≡ Ok n →
    (least ≤ n → n ≤ most → ⊥) → None ≡ number_in_bounds least most text
outside_is_none least most text r n plain h is out =
    let same : n ≡ digits_value 10 text = (OkIff-at_ok r _ _ n (parse_plain own 32 text r h (unpadded text plain).plus) is).1 in
    none_of least most text (λ s l m. out (omega (arith, same, l)) (omega (arith, same, m)))

pub read_is_some : {E : Type 0} (least most : ℕ) (text : List ℕ) (r : Result ℕ E) (n : ℕ) → most < 2 ^ 32 → is_padded text ≡ false →
    ParsesUnsigned 32 10 text r → r ≡ Ok n → least ≤ n → n ≤ most → Some n ≡ number_in_bounds least most text
read_is_some least most text r n small plain h is l m =
    let u = unpadded text plain in
    let p = OkIff-at_ok r _ _ n (parse_plain own 32 text r h u.plus) is in
    let same : n ≡ digits_value 10 text = p.1 in
    let some : 0 < length text = p.0.1 in
    let alone : get_or text 0 0 ≡ 48 → length text ≡ 1 = λ e. let one = u.alone e in omega (arith, some, one) in
    let spelled : decimal (digits_value 10 text) ≡ text = decimal-digits_value own text p.0.0 some alone (omega (arith, small, m, same)) in
    subst (λ (k : ℕ). Some k ≡ number_in_bounds least most text) (sym same)
    (some_of least most text spelled (omega (arith, same, l)) (omega (arith, same, m)))
