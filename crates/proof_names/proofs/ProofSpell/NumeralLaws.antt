-- The decimal digits of a number are one numeral, that of the number.
use Rattle.std.proofs.Common.{◌≡◌, ◌∙◌, ◌≢◌, ℕ, zero, suc, ◌+◌, ◌-◌, ◌*◌, ◌/◌, ◌%◌, ◌^◌, ◌<◌, ◌≤◌, Bool, true, false, not, List, [], ◌∷◌, ◌++◌, length, length-append, Some, refl, sym, ap, subst, arith}
use Rattle.std.specs.Prelude.{Result, Ok, Err, IfOk, ℤ, pos, negsuc, neg_ℤ, unsigned_abs, nat_eq, if◌then◌else◌}
use Rattle.std.specs.List.{list_all}
use Rattle.std.specs.Option.{option_map}
use Rattle.std.specs.Fmt.{decimal}
use Rattle.std.proofs.lemmas.Fmt.{decimal_by_steps_wide, decimal_digit}
use Rattle.std.proofs.Math.Nat.{pow-succ'}
use Rattle.std.proofs.lemmas.Bool.{lt-ltb, eqb-true, false≢true}
use Rattle.std.proofs.lemmas.Bool.Decides.{nat_tests}
use lib.Signed.{lt_z}
use Rattle.math_facts.specs.Fits.{Fits}
use Rattle.boogie_tree.specs.Names.{is_digit}
use Rattle.proof_form.specs.declared.numerals.Numeral.{Numeral}
use Rattle.proof_form.specs.NumberValues.{number, value}
use Rattle.proof_form.specs.Numerals.{is_numeral, is_zero_text, has_one_spelling}
use Rattle.proof_form.proofs.RunLaws.{both_hold}
use Rattle.proof_names.specs.Numbers.{index_in, short_in, number_in, count_in, if_below, signed}
use Rattle.proof_names.specs.ProofSpell.Spelled.{is_negative, Writes, WritesIndex, WritesShort}

-- ---- digits

-- the first digit is not 0
abbrev begins : List ℕ → Bool
begins [] = false
begins (d ∷ ds) = not (nat_eq d 48)

record IsDecimal (n : ℕ) (ds : List ℕ) : Type 0 where
  digits : list_all is_digit ds ≡ true
  is : number ds ≡ n
  front : 0 < n → begins ds ≡ true

is_digit_of : (n : ℕ) → n < 10 → is_digit (48 + n) ≡ true
is_digit_of n l = grind (arith, nat_tests)

not_zero_of : (n : ℕ) → 0 < n → not (nat_eq (48 + n) 48) ≡ true
not_zero_of n l = grind (arith, nat_tests)

one_digit : (n : ℕ) → n < 10 → IsDecimal n ((48 + n) ∷ [])
one_digit n l = record { digits = rw (is_digit_of n l) refl; is = omega arith; front = λ p. not_zero_of n p }

regroup : (p x n d : ℕ) → 10 * p * x + (n * 10 + d) ≡ (p * x + n) * 10 + d
regroup p x n d = omega arith

one_more : (ds : List ℕ) (d : ℕ) → number (ds ++ (48 + d) ∷ []) ≡ number ds * 10 + d
one_more [] d = omega arith
one_more (x ∷ ds) d =
    let e : 10 ^ length (ds ++ (48 + d) ∷ []) ≡ 10 * 10 ^ length ds =
    ap (λ (k : ℕ). 10 ^ k) (length-append ds ((48 + d) ∷ []) ∙ plus_one (length ds)) ∙ pow-succ' 10 (length ds) in
    ap (λ (k : ℕ). k * (x - 48) + number (ds ++ (48 + d) ∷ [])) e ∙ ap (λ (k : ℕ). 10 * 10 ^ length ds * (x - 48) + k) (one_more ds d) ∙
    regroup (10 ^ length ds) (x - 48) (number ds) d
  where
    plus_one : (k : ℕ) → k + 1 ≡ suc k
    plus_one k = omega arith

all_more : (ds : List ℕ) (d : ℕ) → list_all is_digit ds ≡ true → is_digit d ≡ true → list_all is_digit (ds ++ d ∷ []) ≡ true
all_more [] d h k = rw k refl
all_more (x ∷ ds) d h k = let b = both_hold (is_digit x) (list_all is_digit ds) h in rw (b.0, all_more ds d b.1 k) refl

begins_more : (ds : List ℕ) (d : ℕ) → begins ds ≡ true → begins (ds ++ d ∷ []) ≡ true
begins_more [] d h = absurd (false≢true h)
begins_more (x ∷ ds) d h = h

more_digits : (n : ℕ) (ds : List ℕ) → 10 ≤ n → IsDecimal (n / 10) ds → IsDecimal n (ds ++ (48 + n % 10) ∷ [])
more_digits n ds l h = record {
  digits = all_more ds (48 + n % 10) h.digits (is_digit_of (n % 10) (omega arith));
  is = let e = one_more ds (n % 10) in let v = h.is in omega arith;
  front = λ p. begins_more ds (48 + n % 10) (h.front (omega arith));
}

is_decimal : (n : ℕ) → n < 10 ^ 64 → IsDecimal n (decimal n)
is_decimal n l = decimal_by_steps_wide IsDecimal one_digit more_digits n l

begun_spelled : (b : Bool) (ds : List ℕ) → begins ds ≡ true → has_one_spelling b ds ≡ true
begun_spelled b [] h = h
begun_spelled true (d ∷ []) h = h
begun_spelled false (d ∷ []) h = refl
begun_spelled b (d ∷ e ∷ ds) h = h

spelled : (b : Bool) (n : ℕ) → n < 10 ^ 64 → (b ≡ true → 0 < n) → has_one_spelling b (decimal n) ≡ true
spelled true zero l p = let k = p refl in absurd (omega arith)
spelled false zero l p = rw (decimal_digit 0 (omega arith)) refl
spelled b (suc n) l p = begun_spelled b (decimal (suc n)) ((is_decimal (suc n) l).front (omega arith))

decimal_is_numeral : (b : Bool) (n : ℕ) → n < 10 ^ 64 → (b ≡ true → 0 < n) → is_numeral (record { negative = b; digits = decimal n }) ≡ true
decimal_is_numeral b n l p = rw ((is_decimal n l).digits, spelled b n l p) refl

-- the digits of a number write it
pub natural_writes : (n : ℕ) (ds : List ℕ) → n < 2 ^ 64 → ds ≡ decimal n → Writes (record { negative = false; digits = ds }) (pos n)
natural_writes n ds l e =
    let w : n < 10 ^ 64 = omega arith in
    record {
      valid = subst (λ (x : List ℕ). is_numeral (record { negative = false; digits = x }) ≡ true) (sym e) (decimal_is_numeral false n w (λ k. absurd (false≢true k)));
      sign = refl;
      size = ap number e ∙ (is_decimal n w).is;
    }

positive_size : (z : ℤ) → is_negative z ≡ true → 0 < unsigned_abs z
positive_size (pos n) e = absurd (false≢true e)
positive_size (negsuc n) e = omega arith

pub integer_writes : (z : ℤ) (b : Bool) (ds : List ℕ) → Fits z → b ≡ is_negative z → ds ≡ decimal (unsigned_abs z) → Writes (record { negative = b; digits = ds }) z
integer_writes z b ds f s e =
    let w : unsigned_abs z < 10 ^ 64 = (let h : unsigned_abs z < 2 ^ 127 = f in omega arith) in
    record {
      valid = subst (λ (x : List ℕ). is_numeral (record { negative = b; digits = x }) ≡ true) (sym e)
          (decimal_is_numeral b (unsigned_abs z) w (λ k. positive_size z (sym s ∙ k)));
      sign = s;
      size = ap number e ∙ (is_decimal (unsigned_abs z) w).is;
    }

-- ---- what a numeral is read as

below_is : (limit n : ℕ) → n < limit → if_below limit n ≡ Some n
below_is limit n l = rw (lt-ltb n limit l) refl

counted : (limit : ℕ) (m : Numeral) (k : ℕ) → k < limit → m.negative ≡ false → number m.digits ≡ k → count_in limit m ≡ Some k
counted limit m k l s e = rw (s, e) (below_is limit k l)

pub writes_index : (m : Numeral) (k : ℕ) → Writes m (pos k) → k < 2 ^ 64 → index_in m ≡ Some k
writes_index m k w l = counted (2 ^ 64) m k l w.sign w.size

pub writes_short : (m : Numeral) (k : ℕ) → Writes m (pos k) → k < 2 ^ 32 → short_in m ≡ Some k
writes_short m k w l = counted (2 ^ 32) m k l w.sign w.size

signed_is : (z : ℤ) → (if is_negative z then neg_ℤ (pos (unsigned_abs z)) else pos (unsigned_abs z)) ≡ z
signed_is (pos n) = refl
signed_is (negsuc n) = refl

-- the number of a numeral is the one that it writes
pub writes_value : (m : Numeral) (z : ℤ) → Writes m z → value m ≡ z
writes_value m z w = rw (w.sign, w.size) (signed_is z)

pub writes_number : (m : Numeral) (z : ℤ) → Writes m z → Fits z → number_in m ≡ Some z
writes_number m z w f =
    let e : if_below (2 ^ 127) (number m.digits) ≡ Some (unsigned_abs z) = rw w.size (below_is (2 ^ 127) (unsigned_abs z) f) in
    ap (option_map (signed m)) e ∙ ap Some (rw w.sign (signed_is z))

zero_is : (ds : List ℕ) → is_zero_text ds ≡ true → number ds ≡ 0
zero_is [] e = absurd (false≢true e)
zero_is (d ∷ []) e = let k = eqb-true d 48 e in omega arith
zero_is (d ∷ x ∷ ds) e = absurd (false≢true e)

no_size : (z : ℤ) → unsigned_abs z ≡ 0 → z ≡ pos 0
no_size (pos n) e = ap pos e
no_size (negsuc n) e = absurd (omega arith)

not_of : (b : Bool) → (b ≡ true → ⊥) → not b ≡ true
not_of true h = absurd (h refl)
not_of false h = refl

-- a numeral of another number is not that of 0
pub writes_not_zero : (m : Numeral) (z : ℤ) → Writes m z → z ≢ pos 0 → not (is_zero_text m.digits) ≡ true
writes_not_zero m z w n = not_of (is_zero_text m.digits) (λ e. n (no_size z (sym w.size ∙ zero_is m.digits e)))

pub sign_is : (z : ℤ) → lt_z z (pos 0) ≡ is_negative z
sign_is (pos n) = grind (arith, nat_tests)
sign_is (negsuc n) = refl

-- the outcome of the making of a numeral

pub index_of : {E : Type 0} (r : Result Numeral E) (k : ℕ) → k < 2 ^ 64 → IfOk r (λ n. Writes n (pos k)) → IfOk r (λ n. WritesIndex n k)
index_of (Ok n) k l w = record { writes = w; read = writes_index n k w l }
index_of (Err e) k l w = w

pub short_of : {E : Type 0} (r : Result Numeral E) (k : ℕ) → k < 2 ^ 32 → IfOk r (λ n. Writes n (pos k)) → IfOk r (λ n. WritesShort n k)
short_of (Ok n) k l w = record { writes = w; read = writes_short n k w l }
short_of (Err e) k l w = w
