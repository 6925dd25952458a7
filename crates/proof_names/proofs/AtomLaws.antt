-- The row of an atom: its terms ascend, none is 0, and all numbers fit, so that nothing is added up.
use Rattle.std.proofs.Common.{◌≡◌, ◌≢◌, ◌∙◌, ℕ, zero, suc, ◌+◌, ◌-◌, ◌*◌, ◌^◌, ◌<◌, ◌≤◌, Bool, true, false, ◌&&◌, not, List, [], ◌∷◌, length, take, drop, Option, None, Some, refl, sym, ap, subst, inl, inr, lit<, arith}
use Rattle.std.specs.Prelude.{ℤ, pos, neg_ℤ, unsigned_abs, map, nat_eq, nat_le, nat_lt, if◌then◌else◌}
use Rattle.std.specs.List.{list_all, AllByRecursion}
use Rattle.std.specs.Option.{option_map}
use Rattle.std.proofs.Math.Nat.{pow-succ'}
use Rattle.std.proofs.lemmas.Bool.{leb-true, ltb-true, eq-eqb, cases_eq, false≢true}
use Rattle.std.proofs.lemmas.List.{drop_all}
use Rattle.math_facts.specs.Fits.{Fits}
use Rattle.math_facts.specs.Terms.{coefficient}
use Rattle.lin_rows.specs.declared.types.RowKind.TheVariants.{Le}
use Rattle.lin_rows.specs.Rows.{LinearRow, AscendsFrom, IsCoefficient}
use Rattle.lin_rows.specs.Sums.{row_of, summed, SumsFit}
use Rattle.lin_rows.proofs.RowLemmas.{terms_are_summed}
use Rattle.lin_rows.proofs.Ascending.{coefficient_first, coefficient_rest}
use Rattle.boogie_tree.specs.Names.{is_digit}
use Rattle.letter_acts.specs.Frames.{Columns}
use Rattle.proof_form.specs.declared.numerals.Numeral.{Numeral}
use Rattle.proof_form.specs.NumberValues.{number}
use Rattle.proof_form.specs.Names.{is_column}
use Rattle.proof_form.specs.Numerals.{is_numeral, is_zero_text, has_one_spelling}
use Rattle.proof_form.specs.Predicates.{is_term}
use Rattle.proof_form.proofs.RunLaws.{both_hold}
use Rattle.proof_names.specs.Numbers.{number_in, if_below, signed}
use Rattle.proof_names.specs.Options.{both, all_some}
use Rattle.proof_names.specs.Columns.{column_named}
use Rattle.proof_names.specs.Predicates.{term_named, terms_ascend, if_there, row_named}
use Rattle.proof_names.proofs.AllLaws.{front_of}

-- ---- numbers

abs_of_neg : (m : ℕ) → unsigned_abs (neg_ℤ (pos m)) ≡ m
abs_of_neg zero = refl
abs_of_neg (suc m) = refl

signed_fits : (b : Bool) (m : ℕ) → m < 2 ^ 127 → Fits (if b then neg_ℤ (pos m) else pos m)
signed_fits true m l = rw (abs_of_neg m) l
signed_fits false m l = l

signed_of : (n : Numeral) (o : Option ℕ) (z : ℤ) → ((m : ℕ) → o ≡ Some m → m < 2 ^ 127) → option_map (signed n) o ≡ Some z → Fits z
signed_of n None z h e = absurd (cc)
signed_of n (Some m) z h e = let k : signed n m ≡ z = cc in subst (λ (x : ℤ). Fits x) k (signed_fits n.negative m (h m refl))

below_is_below : (limit n m : ℕ) (b : Bool) → nat_lt n limit ≡ b → (if b then Some n else None) ≡ Some m → m < limit
below_is_below limit n m true t e = let l = ltb-true n limit t in let k : n ≡ m = cc in omega (arith, l, k)
below_is_below limit n m false t e = absurd (cc)

-- a numeral's number fits where it is found
pub number_fits : (n : Numeral) (z : ℤ) → number_in n ≡ Some z → Fits z
number_fits n z e =
    signed_of n (if_below (2 ^ 127) (number n.digits)) z (λ m h. below_is_below (2 ^ 127) (number n.digits) m (nat_lt (number n.digits) (2 ^ 127)) refl h) e

digit_at_least : (d : ℕ) → is_digit d ≡ true → 48 ≤ d
digit_at_least d h = leb-true 48 d (both_hold (nat_le 48 d) (nat_le d 57) h).0

ten_power : (n : ℕ) → 0 < 10 ^ n
ten_power zero = omega arith
ten_power (suc n) = let h = ten_power n in let e = pow-succ' 10 n in omega arith

product_positive : (p d n : ℕ) → 0 < p → 48 < d → 0 < p * (d - 48) + n
product_positive p d n h l = grind arith

above_zero_digit : (d : ℕ) → is_digit d ≡ true → not (nat_eq d 48) ≡ true → 48 < d
above_zero_digit d h n =
    let l = digit_at_least d h in
    let e : (d ≡ 48) → ⊥ = λ k. not_both (nat_eq d 48) (eq-eqb d 48 k) n in
    omega (arith, l, e)
  where
    not_both : (b : Bool) → b ≡ true → not b ≡ true → ⊥
    not_both true e n = false≢true n
    not_both false e n = false≢true e

-- digits that are not those of 0 write a positive number
positive_digits : (negative : Bool) (ds : List ℕ) → list_all is_digit ds ≡ true → has_one_spelling negative ds ≡ true → not (is_zero_text ds) ≡ true → 0 < number ds
positive_digits negative [] a s z = absurd (false≢true s)
positive_digits negative (d ∷ []) a s z =
    let b = both_hold (is_digit d) true a in
    product_positive 1 d 0 (omega arith) (above_zero_digit d b.0 z)
positive_digits negative (d ∷ e ∷ ds) a s z =
    let b = both_hold (is_digit d) (list_all is_digit (e ∷ ds)) a in
    product_positive (10 ^ length (e ∷ ds)) d (number (e ∷ ds)) (ten_power (length (e ∷ ds))) (above_zero_digit d b.0 s)

signed_not_zero : (b : Bool) (m : ℕ) → 0 < m → (if b then neg_ℤ (pos m) else pos m) ≢ pos 0
signed_not_zero true zero l = absurd (omega arith)
signed_not_zero true (suc m) l = λ e. absurd (cc)
signed_not_zero false zero l = absurd (omega arith)
signed_not_zero false (suc m) l = λ e. absurd (cc)

signed_some_not_zero : (n : Numeral) (m : ℕ) (b : Bool) (z : ℤ) → 0 < m → option_map (signed n) (if b then Some m else None) ≡ Some z → z ≢ pos 0
signed_some_not_zero n m true z l e = let k : signed n m ≡ z = cc in subst (λ (x : ℤ). x ≢ pos 0) k (signed_not_zero n.negative m l)
signed_some_not_zero n m false z l e = absurd (cc)

-- ---- terms

-- both values
record Both {X Y : Type 0} (o : Option X) (p : Option Y) (t : X × Y) : Type 0 where
  first : o ≡ Some t.0
  second : p ≡ Some t.1

both_of : {X Y : Type 0} (o : Option X) (p : Option Y) (t : X × Y) → both o p ≡ Some t → Both o p t
both_of None p t e = absurd (cc)
both_of (Some x) None t e = absurd (cc)
both_of (Some x) (Some y) t e = let k : (x, y) ≡ t = cc in record { first = ap (λ u. Some u.0) k; second = ap (λ u. Some u.1) k }

term_is : (frame : Columns) (t : Numeral × List ℕ) (u : ℕ × ℤ) → is_term t ≡ true → term_named frame t ≡ Some u → IsCoefficient u
term_is frame t u g e =
    let b = both_of (column_named frame t.1) (number_in t.0) u e in
    let i = both_hold (is_numeral t.0) (not (is_zero_text t.0.digits) && is_column t.1) g in
    let j = both_hold (not (is_zero_text t.0.digits)) (is_column t.1) i.1 in
    let k = both_hold (list_all is_digit t.0.digits) (has_one_spelling t.0.negative t.0.digits) i.0 in
    record {
      is_not_zero = signed_some_not_zero t.0 (number t.0.digits) (nat_lt (number t.0.digits) (2 ^ 127)) u.1 (positive_digits t.0.negative t.0.digits k.0 k.1 j.0) b.second;
      fits = number_fits t.0 u.1 b.second;
    }

-- the terms of the grammar, with their columns named, are none of them 0, and fit
pub terms_are : (frame : Columns) (terms : List (Numeral × List ℕ)) (ts : List (ℕ × ℤ)) → list_all is_term terms ≡ true → all_some (map (term_named frame) terms) ≡ Some ts →
    AllByRecursion IsCoefficient ts
terms_are frame [] ts g e = let k : [] ≡ ts = cc in subst (λ (l : List (ℕ × ℤ)). AllByRecursion IsCoefficient l) k tt
terms_are frame (t ∷ terms) ts g e =
    let f = front_of (term_named frame t) (all_some (map (term_named frame) terms)) ts e in
    let b = both_hold (is_term t) (list_all is_term terms) g in
    subst (λ (l : List (ℕ × ℤ)). AllByRecursion IsCoefficient l) (sym f.joined) (term_is frame t f.first b.0 f.is, terms_are frame terms f.rest b.1 f.others)

-- ---- order

ascends_from : (low : ℕ) (t : ℕ × ℤ) (ts : List (ℕ × ℤ)) → low ≤ t.0 → terms_ascend (t ∷ ts) ≡ true → AscendsFrom low (t ∷ ts)
ascends_from low t [] l e = (l, tt)
ascends_from low t (u ∷ us) l e =
    let b = both_hold (nat_lt t.0 u.0) (terms_ascend (u ∷ us)) e in
    (l, ascends_from (t.0 + 1) u us (let k = ltb-true t.0 u.0 b.0 in omega (arith, k)) b.1)

ascending : (ts : List (ℕ × ℤ)) → terms_ascend ts ≡ true → AscendsFrom 0 ts
ascending [] e = tt
ascending (t ∷ ts) e = ascends_from 0 t ts (omega arith) e

few_ascend : (ts : List (ℕ × ℤ)) (k : ℕ) → length ts ≤ suc k → terms_ascend (drop k ts) ≡ true
few_ascend [] k l = ap terms_ascend (drop_all k [] (omega arith))
few_ascend (t ∷ []) zero l = refl
few_ascend (t ∷ u ∷ us) zero l = absurd (omega arith)
few_ascend (t ∷ ts) (suc k) l = few_ascend ts k (omega arith)

pub ascends_end : (ts : List (ℕ × ℤ)) (i : ℕ) → terms_ascend ts ≡ terms_ascend (drop (i - 1) ts) → 1 ≤ i → length ts ≤ i → true ≡ terms_ascend ts
ascends_end ts zero h o l = absurd (omega arith)
ascends_end ts (suc k) h o l = let e : suc k - 1 ≡ k = omega arith in sym (h ∙ ap (λ (j : ℕ). terms_ascend (drop j ts)) e ∙ few_ascend ts k l)

-- ---- the row

-- terms in order, none of them 0, are added up to themselves
pub row_is : (ts : List (ℕ × ℤ)) (bound : ℤ) → terms_ascend ts ≡ true → AllByRecursion IsCoefficient ts →
    ◌≡◌ {A = LinearRow} (row_of ts Le bound) (record { terms = ts; kind = Le; bound = bound })
row_is ts bound a c =
    let t : ts ≡ summed ts = terms_are_summed ts ts (record { ascends = ascending ts a; coefficients = c }) (λ k. refl) in
    λ i. record { terms = sym t i; kind = Le; bound = bound }

each_fits : (ts : List (ℕ × ℤ)) → AllByRecursion IsCoefficient ts → AllByRecursion (λ t. Fits t.1) ts
each_fits [] h = tt
each_fits (t ∷ ts) h = (h.0.fits, each_fits ts h.1)

-- the coefficient of a column of ascending terms is that of one term, or 0
column_fits : (low c : ℕ) (ts : List (ℕ × ℤ)) → AscendsFrom low ts → AllByRecursion (λ t. Fits t.1) ts → Fits (coefficient c ts)
column_fits low c [] up h = lit< tt
column_fits low c (t ∷ ts) up h = elim (cases_eq t.0 c) [
  | inl e ↦ subst (λ (z : ℤ). Fits z) (sym (coefficient_first c t ts up.1 e)) h.0
  | inr e ↦ subst (λ (z : ℤ). Fits z) (sym (coefficient_rest c t ts e)) (column_fits (t.0 + 1) c ts up.1 h.1)
]

first_ascend : (low n : ℕ) (ts : List (ℕ × ℤ)) → AscendsFrom low ts → AscendsFrom low (take n ts)
first_ascend low zero ts up = tt
first_ascend low (suc n) [] up = tt
first_ascend low (suc n) (t ∷ ts) up = (up.0, first_ascend (t.0 + 1) n ts up.1)

first_fit : (n : ℕ) (ts : List (ℕ × ℤ)) → AllByRecursion (λ t. Fits t.1) ts → AllByRecursion (λ t. Fits t.1) (take n ts)
first_fit zero ts h = tt
first_fit (suc n) [] h = tt
first_fit (suc n) (t ∷ ts) h = (h.0, first_fit n ts h.1)

-- and all their sums fit
pub sums_fit : (ts : List (ℕ × ℤ)) (bound : ℤ) → terms_ascend ts ≡ true → AllByRecursion IsCoefficient ts → Fits bound → SumsFit ts bound
sums_fit ts bound a c b = record {
  each = each_fits ts c;
  sums = λ k n. column_fits 0 k (take n ts) (first_ascend 0 n ts (ascending ts a)) (first_fit n ts (each_fits ts c));
  bound_fits = b;
}

-- ---- what a line's atom names

-- the row of the terms and the bound that were found
pub row_named_is : (frame : Columns) (bound : Numeral) (terms : List (Numeral × List ℕ)) (ts : List (ℕ × ℤ)) (b : ℤ) (row : LinearRow) → list_all is_term terms ≡ true →
    Some ts ≡ all_some (map (term_named frame) terms) → Some b ≡ number_in bound → terms_ascend ts ≡ true → row ≡ row_of ts Le b → Some row ≡ row_named frame bound terms
row_named_is frame bound terms ts b row g e n a r =
    let k = row_is ts b a (terms_are frame terms ts g (sym e)) in
    ap Some (r ∙ k) ∙ ap (λ (x : Bool). if x then Some (record { terms = ts; kind = Le; bound = b }) else None) (sym a) ∙
    ap (λ (o : Option (List (ℕ × ℤ))). if_there (both o (Some b))) e ∙ ap (λ (o : Option ℤ). if_there (both (all_some (map (term_named frame) terms)) o)) n

-- it has no number that does not fit
pub row_fits : (frame : Columns) (bound : Numeral) (terms : List (Numeral × List ℕ)) (ts : List (ℕ × ℤ)) (b : ℤ) → list_all is_term terms ≡ true →
    Some ts ≡ all_some (map (term_named frame) terms) → Some b ≡ number_in bound → terms_ascend ts ≡ true → SumsFit ts b
row_fits frame bound terms ts b g e n a = sums_fit ts b a (terms_are frame terms ts g (sym e)) (number_fits bound b (sym n))
