-- The test of two keys is the test of the acts that they stand for, and the number of a key among keys is that of its act among acts.
use Rattle.std.proofs.Common.{◌≡◌, ◌∙◌, ℕ, suc, ◌+◌, Bool, true, false, cond, not, ◌&&◌, ◌||◌, List, [], ◌∷◌, ◌++◌, length, map, Option, None, Some, refl, sym, ap, subst, eqb, arith, if◌then◌else◌}
use Rattle.std.specs.Ordering.{int_eq}
use Rattle.std.specs.List.{list_any, position_or_len}
use Rattle.std.specs.Cmp.Derive.Mapped.{pointwise-map}
use Rattle.std.proofs.lemmas.Bool.{false≢true}
use Rattle.std.proofs.lemmas.List.{length-map}
use lib.Pointwise.{pointwise}
use mathlib.Core.Bool.{beq}
use Rattle.letter_acts.specs.declared.letter_table.keys.RowKey.{RowKey}
use Rattle.letter_acts.specs.declared.letter_table.keys.ActKey.{ActKey}
use Rattle.letter_acts.specs.declared.letter_table.keys.ActKey.TheVariants.{Inside, Call, Back}
use Rattle.letter_acts.specs.declared.letter_table.keys.MarkedKey.{MarkedKey}
use Rattle.letter_acts.specs.contracts.letter_table.keys.ActKeyPartialEq.TheImpl as act_test
use Rattle.letter_acts.specs.contracts.letter_table.keys.MarkedKeyPartialEq.TheImpl as marked_key_test
use Rattle.letter_acts.specs.contracts.letter_table.keys.RowKeyPartialEq.TheImpl as row_test
use Rattle.letter_acts.specs.LetterTable.Letters.{MarkedAct, same_act, same_marked, same_row, same_term, same_row_kind, act_place_from, or_last, act_number, unless_there, with_act}
use Rattle.letter_acts.specs.LetterTable.Ties.Keys.{plain_key, plain_row, kind_said, marked_key}
use Rattle.letter_acts.proofs.LetterTable.SameActs.{same_mark, same_marked_so, same_marked_back}

abbrev pub key_test : ActKey → ActKey → Bool
key_test a b = act_test.eq-value.it a b

abbrev pub row_key_test : RowKey → RowKey → Bool
row_key_test a b = row_test.eq-value.it a b

kinds_same : (x y : Bool) → beq x y ≡ same_row_kind (kind_said x) (kind_said y)
kinds_same true true = refl
kinds_same true false = refl
kinds_same false true = refl
kinds_same false false = refl

row_is : (a b : RowKey) → row_key_test a b ≡ same_row (plain_row a) (plain_row b)
row_is a b = ap (λ (k : Bool). pointwise same_term a.terms.items b.terms.items && (k && int_eq a.bound b.bound)) (kinds_same a.is_equality b.is_equality)

rows_are : (rs ss : List RowKey) → pointwise row_key_test rs ss ≡ pointwise same_row (map plain_row rs) (map plain_row ss)
rows_are rs ss = (λ i. pointwise (λ a b. row_is a b i) rs ss) ∙ sym (pointwise-map plain_row same_row rs ss)

key_is : (a b : ActKey) → key_test a b ≡ same_act (plain_key a) (plain_key b)
key_is (Inside p w h r) (Inside q v k s) = ap (λ (x : Bool). eqb p q && (pointwise eqb w.items v.items && (eqb h k && x))) (rows_are r.items s.items)
key_is (Inside p w h r) (Call q f k s) = refl
key_is (Inside p w h r) (Back d v) = refl
key_is (Call p f h r) (Inside q v k s) = refl
key_is (Call p f h r) (Call q g k s) = ap (λ (x : Bool). eqb p q && (eqb f g && (eqb h k && x))) (rows_are r.items s.items)
key_is (Call p f h r) (Back d v) = refl
key_is (Back c w) (Inside q v k s) = refl
key_is (Back c w) (Call q f k s) = refl
key_is (Back c w) (Back d v) = refl

-- ---- marks

abbrev pub marked_test : MarkedKey → MarkedKey → Bool
marked_test a b = marked_key_test.eq-value.it a b

marks_same : (x y : Bool) → beq x y ≡ same_mark x y
marks_same true true = refl
marks_same true false = refl
marks_same false true = refl
marks_same false false = refl

marked_is : (a b : MarkedKey) → marked_test a b ≡ same_marked (marked_key a) (marked_key b)
marked_is a b = λ i. key_is a.act b.act i && marks_same a.is_coarse b.is_coarse i

-- ---- the test of acts goes both ways

turned_by : (a b : MarkedAct) (x y : Bool) → same_marked a b ≡ x → same_marked b a ≡ y → x ≡ y
turned_by a b true true e f = refl
turned_by a b false false e f = refl
turned_by a b true false e f = absurd (false≢true (sym f ∙ same_marked_back b a (sym (same_marked_so a b e))))
turned_by a b false true e f = absurd (false≢true (sym e ∙ same_marked_back a b (sym (same_marked_so b a f))))

turned : (a b : MarkedAct) → same_marked a b ≡ same_marked b a
turned a b = turned_by a b (same_marked a b) (same_marked b a) refl refl

-- ---- numbers

step : (b : Bool) (n : ℕ) (o : Option ℕ) (there : Bool) (place : ℕ) → o ≡ (if there then Some (suc n + place) else None) →
    (if b then Some n else o) ≡ (if (b || there) then Some (n + cond (not b) (1 + place) 0) else None)
step true n o there place e = let same : n ≡ n + 0 = omega arith in ap Some same
step false n o true place e = let same : suc n + place ≡ n + (1 + place) = omega arith in e ∙ ap Some same
step false n o false place e = e

found_is : (n : ℕ) (keys : List MarkedKey) (k : MarkedKey) →
    act_place_from n (map marked_key keys) (marked_key k) ≡ (if list_any (marked_test k) keys then Some (n + position_or_len (marked_test k) keys) else None)
found_is n [] k = refl
found_is n (x ∷ keys) k =
    let same : same_marked (marked_key x) (marked_key k) ≡ marked_test k x = turned (marked_key x) (marked_key k) ∙ sym (marked_is k x) in
    ap (λ (b : Bool). if b then Some n else act_place_from (suc n) (map marked_key keys) (marked_key k)) same
    ∙ step (marked_test k x) n (act_place_from (suc n) (map marked_key keys) (marked_key k)) (list_any (marked_test k) keys) (position_or_len (marked_test k) keys) (found_is (suc n) keys k)

or_false_left : (a b : Bool) → a || b ≡ false → a ≡ false
or_false_left true b e = e
or_false_left false b e = refl

or_false_right : (a b : Bool) → a || b ≡ false → b ≡ false
or_false_right true b e = absurd (false≢true (sym e))
or_false_right false b e = e

at_end : (p : MarkedKey → Bool) (keys : List MarkedKey) → list_any p keys ≡ false → position_or_len p keys ≡ length keys
at_end p [] e = refl
at_end p (x ∷ keys) e =
    let here : p x ≡ false = or_false_left (p x) (list_any p keys) e in
    let rest : position_or_len p keys ≡ length keys = at_end p keys (or_false_right (p x) (list_any p keys) e) in
    let more : 1 + position_or_len p keys ≡ suc (length keys) = omega arith in
    subst (λ (b : Bool). cond (not b) (1 + position_or_len p keys) 0 ≡ suc (length keys)) (sym here) more

number_by : (keys : List MarkedKey) (k : MarkedKey) (there : Bool) → list_any (marked_test k) keys ≡ there →
    position_or_len (marked_test k) keys ≡ or_last (map marked_key keys) (if there then Some (0 + position_or_len (marked_test k) keys) else None)
number_by keys k true e = omega arith
number_by keys k false e = at_end (marked_test k) keys e ∙ sym (length-map keys marked_key)

-- the number of a key is that of its act
pub number_is : (keys : List MarkedKey) (k : MarkedKey) → position_or_len (marked_test k) keys ≡ act_number (map marked_key keys) (marked_key k)
number_is keys k =
    number_by keys k (list_any (marked_test k) keys) refl ∙ ap (or_last (map marked_key keys)) (sym (found_is 0 keys k))

-- with the act where it is none of those of the keys, and else without
with_is : (keys : List MarkedKey) (k : MarkedKey) →
    with_act (map marked_key keys) (marked_key k) ≡ (if list_any (marked_test k) keys then map marked_key keys else map marked_key keys ++ marked_key k ∷ [])
with_is keys k = ap (unless_there (map marked_key keys) (marked_key k)) (found_is 0 keys k) ∙ by_there (list_any (marked_test k) keys)
  where
    by_there : (there : Bool) → unless_there (map marked_key keys) (marked_key k) (if there then Some (0 + position_or_len (marked_test k) keys) else None)
        ≡ (if there then map marked_key keys else map marked_key keys ++ marked_key k ∷ [])
    by_there true = refl
    by_there false = refl

new_by : (keys : List MarkedKey) (k : MarkedKey) (there : Bool) → true ≡ not there →
    (if there then map marked_key keys else map marked_key keys ++ marked_key k ∷ []) ≡ map marked_key keys ++ marked_key k ∷ []
new_by keys k true e = absurd (false≢true (sym e))
new_by keys k false e = refl

old_by : (keys : List MarkedKey) (k : MarkedKey) (there : Bool) → false ≡ not there →
    (if there then map marked_key keys else map marked_key keys ++ marked_key k ∷ []) ≡ map marked_key keys
old_by keys k true e = refl
old_by keys k false e = absurd (false≢true e)

-- a key that is new is that of an act that is added
with_new : (keys : List MarkedKey) (k : MarkedKey) → true ≡ not (list_any (marked_test k) keys) → with_act (map marked_key keys) (marked_key k) ≡ map marked_key keys ++ marked_key k ∷ []
with_new keys k e = with_is keys k ∙ new_by keys k (list_any (marked_test k) keys) e

-- and else none is added
with_old : (keys : List MarkedKey) (k : MarkedKey) → false ≡ not (list_any (marked_test k) keys) → with_act (map marked_key keys) (marked_key k) ≡ map marked_key keys
with_old keys k e = with_is keys k ∙ old_by keys k (list_any (marked_test k) keys) e

-- the same of acts that the keys stand for
pub added_new : (keys : List MarkedKey) (k : MarkedKey) (acts : List MarkedAct) (a : MarkedAct) (is_new : Bool) → map marked_key keys ≡ acts → marked_key k ≡ a →
    is_new ≡ not (list_any (marked_test k) keys) → is_new ≡ true → acts ++ a ∷ [] ≡ with_act acts a
added_new keys k acts a is_new e f n t =
    ap (λ (xs : List MarkedAct). xs ++ a ∷ []) (sym e) ∙ ap (λ (x : MarkedAct). map marked_key keys ++ x ∷ []) (sym f) ∙ sym (with_new keys k (sym t ∙ n))
    ∙ ap (λ (xs : List MarkedAct). with_act xs (marked_key k)) e ∙ ap (with_act acts) f

pub added_old : (keys : List MarkedKey) (k : MarkedKey) (acts : List MarkedAct) (a : MarkedAct) (is_new : Bool) → map marked_key keys ≡ acts → marked_key k ≡ a →
    is_new ≡ not (list_any (marked_test k) keys) → is_new ≡ false → acts ≡ with_act acts a
added_old keys k acts a is_new e f n t =
    sym e ∙ sym (with_old keys k (sym t ∙ n)) ∙ ap (λ (xs : List MarkedAct). with_act xs (marked_key k)) e ∙ ap (with_act acts) f
