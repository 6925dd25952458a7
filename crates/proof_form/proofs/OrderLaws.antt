-- Numerals are compared by their numbers.
use Rattle.std.proofs.Common.{◌≡◌, ◌↔◌, ℕ, suc, ◌+◌, ◌-◌, ◌*◌, ◌^◌, ◌<◌, ◌≤◌, Bool, true, false, ◌&&◌, ◌||◌, nat_eq, nat_lt, pos, neg_ℤ, List, [], ◌∷◌, length, refl, sym, ap, ◌∙◌, arith}
use Rattle.std.specs.Prelude.{◌<ℤ◌}
use Rattle.std.specs.List.{list_all}
use Rattle.std.proofs.lemmas.Bool.{false≢true, eqb-true, eqb-false, ltb-true, ltb-false, not-true}
use Rattle.std.proofs.lemmas.Bool.Decides.{nat_tests}
use Rattle.std.proofs.lemmas.Int.{ints}
use Rattle.std.proofs.Math.Nat.{mul-le-mul_left, pow-suc, pow-le-pow_right, one-le-pow}
use Rattle.boogie_tree.specs.Names.{is_digit}
use Rattle.proof_form.specs.Numerals.{has_one_spelling, is_numeral, comes_before, digits_are_less, numeral_is_below}
use Rattle.proof_form.specs.NumberValues.{number, value}
use Rattle.proof_form.proofs.RunLaws.{both_hold}

abbrev Digits : List ℕ → Type 0
Digits ds = list_all is_digit ds ≡ true

digit_range : (d : ℕ) → is_digit d ≡ true → (48 ≤ d) × (d ≤ 57)
digit_range d h = (grind (arith, nat_tests), grind (arith, nat_tests))

-- the number is below the power of ten of its length
number_below : (ds : List ℕ) → Digits ds → number ds < 10 ^ length ds
number_below [] h = omega arith
number_below (d ∷ ds) h =
    let k = both_hold (is_digit d) _ h in
    let r = digit_range d k.0 in
    let more = number_below ds k.1 in
    let p = 10 ^ length ds in
    let nine : d - 48 ≤ 9 = (let low = r.0 in let high = r.1 in omega arith) in
    let top : p * (d - 48) ≤ p * 9 = mul-le-mul_left p nine in
    let power : 10 ^ suc (length ds) ≡ p * 10 = pow-suc 10 (length ds) in
    omega arith

-- a greater digit in front decides
front_decides : (p c d x y : ℕ) → c < d → x < p → p * c + x < p * d + y
front_decides p c d x y l small =
    let next : suc c ≤ d = omega arith in
    let h : p * suc c ≤ p * d = mul-le-mul_left p next in
    let e : p * suc c ≡ p * c + p = times_next p c in omega arith
  where
    times_next : (p c : ℕ) → p * suc c ≡ p * c + p
    times_next p c = omega arith

-- Of as many digits

record Compared (ds es : List ℕ) : Type 0 where
  before : comes_before ds es ≡ true → number ds < number es
  not_before : comes_before ds es ≡ false → number es ≤ number ds

greater : (a b : ℕ) → 48 ≤ a → a ≤ b → (b ≡ a → ⊥) → a - 48 < b - 48
greater a b low l ne = omega arith

compared_heads : (d e : ℕ) (ds es : List ℕ) → 48 ≤ d → 48 ≤ e → length ds ≡ length es → number ds < 10 ^ length ds → number es < 10 ^ length es → Compared ds es → Compared (d ∷ ds) (e ∷ es)
compared_heads d e ds es low_d low_e same small_d small_e more = record { before = yes_before (nat_lt d e) refl (nat_eq d e) refl; not_before = no_before (nat_lt d e) refl (nat_eq d e) refl }
  where
    powers : 10 ^ length ds ≡ 10 ^ length es
    powers = ap (λ (n : ℕ). 10 ^ n) same

    yes_before : (t : Bool) → nat_lt d e ≡ t → (u : Bool) → nat_eq d e ≡ u → (t || (u && comes_before ds es)) ≡ true → number (d ∷ ds) < number (e ∷ es)
    yes_before true l u f h =
        let digits : d - 48 < e - 48 = (let k = ltb-true d e l in omega arith) in
        let k = front_decides (10 ^ length ds) (d - 48) (e - 48) (number ds) (number es) digits small_d in
        let q : 10 ^ length ds * (e - 48) ≡ 10 ^ length es * (e - 48) = ap (λ (n : ℕ). n * (e - 48)) powers in omega arith
    yes_before false l true f h =
        let k = more.before h in
        let q : 10 ^ length ds * (d - 48) ≡ 10 ^ length es * (e - 48) = ap (λ (n : ℕ). n * (d - 48)) powers ∙ ap (λ (n : ℕ). 10 ^ length es * (n - 48)) (eqb-true d e f) in omega arith
    yes_before false l false f h = absurd (false≢true h)

    no_before : (t : Bool) → nat_lt d e ≡ t → (u : Bool) → nat_eq d e ≡ u → (t || (u && comes_before ds es)) ≡ false → number (e ∷ es) ≤ number (d ∷ ds)
    no_before true l u f h = absurd (false≢true (sym h))
    no_before false l true f h =
        let k = more.not_before h in
        let q : 10 ^ length ds * (d - 48) ≡ 10 ^ length es * (e - 48) = ap (λ (n : ℕ). n * (d - 48)) powers ∙ ap (λ (n : ℕ). 10 ^ length es * (n - 48)) (eqb-true d e f) in omega arith
    no_before false l false f h =
        let not_less = ltb-false d e l in
        let digits : e - 48 < d - 48 = greater e d low_e not_less (λ same. eqb-false d e f same) in
        let k = front_decides (10 ^ length es) (e - 48) (d - 48) (number es) (number ds) digits small_e in
        let q : 10 ^ length ds * (d - 48) ≡ 10 ^ length es * (d - 48) = ap (λ (n : ℕ). n * (d - 48)) powers in omega arith

compared : (ds es : List ℕ) → Digits ds → Digits es → length ds ≡ length es → Compared ds es
compared [] [] h k e = record { before = λ f. absurd (false≢true f); not_before = λ f. omega arith }
compared [] (e ∷ es) h k same = absurd (omega arith)
compared (d ∷ ds) [] h k same = absurd (omega arith)
compared (d ∷ ds) (e ∷ es) h k same =
    let a = both_hold (is_digit d) _ h in
    let b = both_hold (is_digit e) _ k in
    compared_heads d e ds es (digit_range d a.0).0 (digit_range e b.0).0 (omega arith) (number_below ds a.1) (number_below es b.1) (compared ds es a.1 b.1 (omega arith))

-- With no zero in front

large : (negative : Bool) (es : List ℕ) → Digits es → has_one_spelling negative es ≡ true → 2 ≤ length es → 10 ^ (length es - 1) ≤ number es
large negative [] h o l = absurd (omega arith)
large negative (e ∷ []) h o l = absurd (omega arith)
large negative (e ∷ (f ∷ es)) h o l =
    let k = both_hold (is_digit e) _ h in
    let low = (digit_range e k.0).0 in
    let p = 10 ^ suc (length es) in
    let one : 1 ≤ e - 48 = first_large e low (eqb-false e 48 (not-true _ o)) in
    let h : p * 1 ≤ p * (e - 48) = mul-le-mul_left p one in
    let size : suc (suc (length es)) - 1 ≡ suc (length es) = omega arith in
    let power : 10 ^ (suc (suc (length es)) - 1) ≡ p = ap (λ (n : ℕ). 10 ^ n) size in omega arith
  where
    first_large : (e : ℕ) → 48 ≤ e → (e ≡ 48 → ⊥) → 1 ≤ e - 48
    first_large e l ne = omega arith

some_digits : (negative : Bool) (ds : List ℕ) → has_one_spelling negative ds ≡ true → 1 ≤ length ds
some_digits negative [] o = absurd (false≢true o)
some_digits negative (d ∷ ds) o = omega arith

shorter : (m n : Bool) (ds es : List ℕ) → Digits ds → Digits es → has_one_spelling m ds ≡ true → has_one_spelling n es ≡ true → length ds < length es → number ds < number es
shorter m n ds es h k o q l =
    let some = some_digits m ds o in
    let small = number_below ds h in
    let power : 10 ^ length ds ≤ 10 ^ (length es - 1) = pow-le-pow_right {n = 10} (omega arith) (omega arith) in
    let big = large n es k q (omega arith) in omega arith

strictly_more : (a b : ℕ) → a ≤ b → (b ≡ a → ⊥) → a < b
strictly_more a b l ne = omega arith

less_number : (m n : Bool) (ds es : List ℕ) → Digits ds → Digits es → has_one_spelling m ds ≡ true → has_one_spelling n es ≡ true
    → (digits_are_less ds es ≡ true → number ds < number es) × (digits_are_less ds es ≡ false → number es ≤ number ds)
less_number m n ds es h k o q =
    (yes (nat_lt (length ds) (length es)) refl (nat_eq (length ds) (length es)) refl, no_less (nat_lt (length ds) (length es)) refl (nat_eq (length ds) (length es)) refl)
  where
    yes : (t : Bool) → nat_lt (length ds) (length es) ≡ t → (u : Bool) → nat_eq (length ds) (length es) ≡ u → (t || (u && comes_before ds es)) ≡ true → number ds < number es
    yes true l u f g = shorter m n ds es h k o q (ltb-true (length ds) (length es) l)
    yes false l true f g = (compared ds es h k (eqb-true (length ds) (length es) f)).before g
    yes false l false f g = absurd (false≢true g)

    no_less : (t : Bool) → nat_lt (length ds) (length es) ≡ t → (u : Bool) → nat_eq (length ds) (length es) ≡ u → (t || (u && comes_before ds es)) ≡ false → number es ≤ number ds
    no_less true l u f g = absurd (false≢true (sym g))
    no_less false l true f g = (compared ds es h k (eqb-true (length ds) (length es) f)).not_before g
    no_less false l false f g =
        let le = ltb-false (length ds) (length es) l in
        let ne = eqb-false (length ds) (length es) f in
        let s = shorter n m es ds k h q o (strictly_more (length es) (length ds) le ne) in omega arith

-- Signs

opposite_less : (x y : ℕ) → x < y → neg_ℤ (pos y) <ℤ neg_ℤ (pos x)
opposite_less x y h = omega (arith, ints)

not_opposite_less : (x y : ℕ) → x ≤ y → neg_ℤ (pos x) <ℤ neg_ℤ (pos y) → ⊥
not_opposite_less x y h k = omega (arith, ints)

whole_less : (x y : ℕ) → x < y → pos x <ℤ pos y
whole_less x y h = omega (arith, ints)

not_whole_less : (x y : ℕ) → y ≤ x → pos x <ℤ pos y → ⊥
not_whole_less x y h k = omega (arith, ints)

negative_less : (x y : ℕ) → 0 < x → neg_ℤ (pos x) <ℤ pos y
negative_less x y h = omega (arith, ints)

not_negative_less : (x y : ℕ) → pos x <ℤ neg_ℤ (pos y) → ⊥
not_negative_less x y h = omega (arith, ints)

test_holds : (b : Bool) (P : Type 0) → (b ≡ false → P → ⊥) → P → b ≡ true
test_holds true P f p = refl
test_holds false P f p = absurd (f refl p)

-- a numeral with a minus is not that of 0
below_zero : (ds : List ℕ) → Digits ds → has_one_spelling true ds ≡ true → 0 < number ds
below_zero [] h o = absurd (false≢true o)
below_zero (d ∷ []) h o =
    let k = both_hold (is_digit d) _ h in
    let low = (digit_range d k.0).0 in
    one_digit d low (eqb-false d 48 (not-true _ o))
  where
    one_digit : (d : ℕ) → 48 ≤ d → (d ≡ 48 → ⊥) → 0 < number (d ∷ [])
    one_digit d l ne = omega arith
below_zero (d ∷ (e ∷ ds)) h o =
    let big = large true (d ∷ (e ∷ ds)) h o (omega arith) in
    let p = one-le-pow (length (d ∷ (e ∷ ds)) - 1) 10 (omega arith) in omega arith

pub below_by_value : (m : Bool) (ds : List ℕ) (n : Bool) (es : List ℕ) → is_numeral (record { negative = m; digits = ds }) ≡ true → is_numeral (record { negative = n; digits = es }) ≡ true
    → (numeral_is_below (record { negative = m; digits = ds }) (record { negative = n; digits = es }) ≡ true) ↔ (value (record { negative = m; digits = ds }) <ℤ value (record { negative = n; digits = es }))
below_by_value true ds true es h k =
    let a = both_hold (list_all is_digit ds) _ h in
    let b = both_hold (list_all is_digit es) _ k in
    let l = less_number true true es ds b.0 a.0 b.1 a.1 in
    (λ e. opposite_less (number es) (number ds) (l.0 e), λ p. test_holds (digits_are_less es ds) _ (λ f. not_opposite_less (number ds) (number es) (l.1 f)) p)
below_by_value true ds false es h k =
    let a = both_hold (list_all is_digit ds) _ h in
    (λ e. negative_less (number ds) (number es) (below_zero ds a.0 a.1), λ p. refl)
below_by_value false ds true es h k = (λ e. absurd (false≢true e), λ p. absurd (not_negative_less (number ds) (number es) p))
below_by_value false ds false es h k =
    let a = both_hold (list_all is_digit ds) _ h in
    let b = both_hold (list_all is_digit es) _ k in
    let l = less_number false false ds es a.0 b.0 a.1 b.1 in
    (λ e. whole_less (number ds) (number es) (l.0 e), λ p. test_holds (digits_are_less ds es) _ (λ f. not_whole_less (number ds) (number es) (l.1 f)) p)
