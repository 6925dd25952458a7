-- Loops that mark letters, and that read marks.
use Rattle.std.proofs.Common.{◌≡◌, ◌≢◌, ℕ, zero, suc, ◌+◌, ◌-◌, ◌<◌, ◌≤◌, Bool, true, false, cond, ◌&&◌, ◌||◌, nat_eq, nat_lt, nat_le, List, [], ◌∷◌, ◌++◌, length, map, drop, set, replicate, get_or, Option, None, Some, refl, sym, ap, ◌∙◌, subst, arith, append_assoc}
use Rattle.std.specs.List.{filter, list_any, position_from, range_with_len}
use Rattle.std.proofs.lemmas.Bool.{false≢true, ltb-true, ltb-false, leb-true, le-leb, eqb-true, eq-eqb, ne_eqb}
use Rattle.std.proofs.lemmas.List.{append-nil, length-map, drop_more, drop_all, get_or-set_same, get_or-set_other, set_past, length-set, length-replicate}
use Rattle.letter_acts.specs.declared.acts.Act.{Act}
use Rattle.letter_acts.specs.Acts.{PlainAct, plain_act, plain_acts, mark_of, marks_of}
use Rattle.letter_acts.specs.Invariant.{Graph, mark_at}
use Rattle.proof_form.specs.Lines.{Triple}
use Rattle.proof_form.specs.Annotations.{Content}
use Rattle.proof_names.specs.CoarseLines.CoarseLetters.{is_named_letter, names_letter, is_told, coarse_letters, first_wrong_from}
use Rattle.proof_names.proofs.CoarseLines.OrderLaws.{by_two, same_picked}

or_true : (a : Bool) → (a || true) ≡ true
or_true true = refl
or_true false = refl

or_false : (a : Bool) → (a || false) ≡ a
or_false true = refl
or_false false = refl

and_false : (a : Bool) → (a && false) ≡ false
and_false true = refl
and_false false = refl

and_or : (m a b : Bool) → ((m && a) || (m && b)) ≡ (m && (a || b))
and_or true a b = refl
and_or false a b = refl

differ : (a b : ℕ) → nat_eq a b ≡ false → a ≢ b
differ a b f same = false≢true (sym f ∙ eq-eqb a b same)

-- a graph has a mark for each act
pub as_many : (acts : List Act) (plain : List PlainAct) (marks : List Bool) → plain_acts acts ≡ plain → marks_of acts ≡ marks → length plain ≡ length marks
as_many acts plain marks e f = ap length (sym e) ∙ length-map acts plain_act ∙ sym (length-map acts mark_of) ∙ ap length f

pub as_many_acts : (acts : List Act) (plain : List PlainAct) → plain_acts acts ≡ plain → length acts ≡ length plain
as_many_acts acts plain e = sym (length-map acts plain_act) ∙ ap length e

-- ---- marking the letter that one triple names

pub none_is_marked : (old m : Bool) (n : ℕ) (o : Option ℕ) → o ≡ None → old ≡ (old || (m && is_named_letter n o))
none_is_marked old m n o e = sym (rw e (ap (λ b. old || b) (and_false m) ∙ or_false old))

pub no_mark_is_set : (g : Graph) (old : Bool) (n letter : ℕ) (o : Option ℕ) → o ≡ Some letter → mark_at g letter ≡ false → old ≡ (old || (mark_at g n && is_named_letter n o))
no_mark_is_set g old n letter o e m = by_equality (nat_eq letter n) refl
  where
    by_equality : (b : Bool) → nat_eq letter n ≡ b → old ≡ (old || (mark_at g n && is_named_letter n o))
    by_equality true q =
        let other : mark_at g n ≡ false = ap (mark_at g) (sym (eqb-true letter n q)) ∙ m in
        sym (rw (e, other) (or_false old))
    by_equality false q = sym (rw (e, q) (ap (λ b. old || b) (and_false (mark_at g n)) ∙ or_false old))

pub mark_is_set : (g : Graph) (told : List Bool) (n letter : ℕ) (o : Option ℕ) → o ≡ Some letter → letter < length told → mark_at g letter ≡ true
    → get_or (set told letter true) n false ≡ (get_or told n false || (mark_at g n && is_named_letter n o))
mark_is_set g told n letter o e l m = by_equality (nat_eq letter n) refl
  where
    by_equality : (b : Bool) → nat_eq letter n ≡ b → get_or (set told letter true) n false ≡ (get_or told n false || (mark_at g n && is_named_letter n o))
    by_equality true q =
        let same = eqb-true letter n q in
        let coarse : mark_at g n ≡ true = ap (mark_at g) (sym same) ∙ m in
        let here : get_or (set told letter true) n false ≡ true = ap (λ (k : ℕ). get_or (set told letter true) k false) (sym same) ∙ get_or-set_same told letter true false l in
        here ∙ sym (rw (e, coarse, q) (or_true (get_or told n false)))
    by_equality false q =
        get_or-set_other told letter n true false (λ same. differ letter n q (sym same)) ∙ sym (rw (e, q) (ap (λ b. get_or told n false || b) (and_false (mark_at g n)) ∙ or_false (get_or told n false)))

-- ---- marking the letters of all

-- of each letter the list tells whether it is coarse and one of the triples names it
pub record IsTold (g : Graph) (told : List Bool) (triples : List Triple) : Type 0 where
  pub size : length told ≡ length g.acts
  pub marks : (n : ℕ) → get_or told n false ≡ is_told g triples n

no_marks : (count n : ℕ) → get_or (replicate count false) n false ≡ false
no_marks zero n = refl
no_marks (suc count) zero = refl
no_marks (suc count) (suc n) = no_marks count n

pub told_begins : (g : Graph) (told : List Bool) (count : ℕ) → told ≡ replicate count false → count ≡ length g.acts → IsTold g told []
told_begins g told count e s = record {
  size = ap length e ∙ length-replicate count false ∙ s;
  marks = λ n. ap (λ ms. get_or ms n false) e ∙ no_marks count n ∙ sym (and_false (mark_at g n));
}

any_more : {A : Type 0} (test : A → Bool) (xs : List A) (x : A) → list_any test (xs ++ x ∷ []) ≡ (list_any test xs || test x)
any_more test [] x = or_false (test x)
any_more test (y ∷ xs) x = ap (λ b. test y || b) (any_more test xs x) ∙ or_assoc (test y) (list_any test xs) (test x)
  where
    or_assoc : (a b c : Bool) → (a || (b || c)) ≡ ((a || b) || c)
    or_assoc true b c = refl
    or_assoc false b c = refl

pub told_goes_on : (g : Graph) (old new : List Bool) (done more : List Triple) (t : Triple) → more ≡ done ++ t ∷ [] → length new ≡ length old
    → ((n : ℕ) → get_or new n false ≡ (get_or old n false || (mark_at g n && names_letter n t))) → IsTold g old done → IsTold g new more
told_goes_on g old new done more t e s marked h = subst (λ ts. IsTold g new ts) (sym e) (record {
  size = s ∙ h.size;
  marks = λ n. marked n ∙ ap (λ b. b || (mark_at g n && names_letter n t)) (h.marks n) ∙ and_or (mark_at g n) (list_any (names_letter n) done) (names_letter n t)
      ∙ ap (λ b. mark_at g n && b) (sym (any_more (names_letter n) done t));
})

-- ---- the places with a mark

module _ (test : ℕ → Bool) where
  -- the places so far, and those from here on
  abbrev pub with_places : List ℕ → ℕ → ℕ → List ℕ
  with_places places i count = places ++ filter test (range_with_len i (count - i))

  one_place : (i count : ℕ) → i < count → filter test (range_with_len i (count - i)) ≡ cond (test i) (i ∷ filter test (range_with_len (i + 1) (count - (i + 1)))) (filter test (range_with_len (i + 1) (count - (i + 1))))
  one_place i count l = let e : count - i ≡ suc (count - (i + 1)) = omega arith in ap (λ (k : ℕ). filter test (range_with_len i k)) e

  pub place_is_marked : (places more : List ℕ) (i count : ℕ) (all : List ℕ) → i < count → test i ≡ true → more ≡ places ++ i ∷ [] → with_places places i count ≡ all → with_places more (i + 1) count ≡ all
  place_is_marked places more i count all l t e h =
      let rest = filter test (range_with_len (i + 1) (count - (i + 1))) in
      ap (λ ps. ps ++ rest) e ∙ append_assoc places (i ∷ []) rest ∙ ap (λ ps. places ++ ps) (sym (one_place i count l ∙ rw t refl)) ∙ h

  pub place_has_no_mark : (places : List ℕ) (i count : ℕ) (all : List ℕ) → i < count → test i ≡ false → with_places places i count ≡ all → with_places places (i + 1) count ≡ all
  place_has_no_mark places i count all l t h = ap (λ ps. places ++ ps) (sym (one_place i count l ∙ rw t refl)) ∙ h

  pub places_begin : (places : List ℕ) (count : ℕ) → places ≡ [] → with_places places 0 count ≡ filter test (range_with_len 0 count)
  places_begin places count none =
      let e : count - 0 ≡ count = omega arith in
      ap (λ ps. ps ++ filter test (range_with_len 0 (count - 0))) none ∙ ap (λ (k : ℕ). filter test (range_with_len 0 k)) e

  -- one more place, with a mark or without
  pub place_is_done : (places more : List ℕ) (i count : ℕ) (all : List ℕ) → i < count → more ≡ cond (test i) (places ++ i ∷ []) places → with_places places i count ≡ all → with_places more (i + 1) count ≡ all
  place_is_done places more i count all l e h = by_two (test i)
      (λ t. place_is_marked places more i count all l t (e ∙ rw t refl) h)
      (λ t. ap (λ ps. ps ++ filter test (range_with_len (i + 1) (count - (i + 1)))) (e ∙ rw t refl) ∙ place_has_no_mark places i count all l t h)

  pub places_end : (places : List ℕ) (i count : ℕ) (all : List ℕ) → count ≤ i → with_places places i count ≡ all → places ≡ all
  places_end places i count all l h =
      let e : count - i ≡ 0 = omega arith in
      sym (append-nil places) ∙ ap (λ (k : ℕ). places ++ filter test (range_with_len i k)) (sym e) ∙ h

-- the places with a mark are the letters that are told
pub letters_are : (g : Graph) (a : Content) (marks : List Bool) → length marks ≡ length g.marks → ((n : ℕ) → get_or marks n false ≡ is_told g a.triples n)
    → filter (λ n. get_or marks n false) (range_with_len 0 (length marks)) ≡ coarse_letters g a
letters_are g a marks s h =
    same_picked (λ n. get_or marks n false) (is_told g a.triples) h (range_with_len 0 (length marks)) ∙ ap (λ (k : ℕ). filter (is_told g a.triples) (range_with_len 0 k)) s

-- ---- the first line that is wrong

module _ (test : ℕ → Bool) where
  next_line : (ns : List ℕ) (low i n : ℕ) → i < length ns → n ≡ get_or ns i 0
      → first_wrong_from test low i (drop i ns) ≡ cond (nat_le low n && test n) (first_wrong_from test (n + 1) (i + 1) (drop (i + 1) ns)) (Some i)
  next_line ns low i n l e = ap (first_wrong_from test low i) (drop_more ns i 0 l) ∙ ap (λ (m : ℕ). first_wrong_from test low i (m ∷ drop (i + 1) ns)) (sym e)

  not_greater : (low n : ℕ) → n < low → nat_le low n ≡ false
  not_greater low n l = by_test (nat_le low n) refl
    where
      by_test : (b : Bool) → nat_le low n ≡ b → b ≡ false
      by_test false q = refl
      by_test true q = absurd (let m = leb-true low n q in omega arith)

  pub line_is_not_greater : (ns : List ℕ) (low i n : ℕ) (all : Option ℕ) → i < length ns → n ≡ get_or ns i 0 → n < low → first_wrong_from test low i (drop i ns) ≡ all → Some i ≡ all
  line_is_not_greater ns low i n all l e s h = sym (next_line ns low i n l e ∙ rw (not_greater low n s) refl) ∙ h

  pub line_is_not_told : (ns : List ℕ) (low i n : ℕ) (all : Option ℕ) → i < length ns → n ≡ get_or ns i 0 → test n ≡ false → first_wrong_from test low i (drop i ns) ≡ all → Some i ≡ all
  line_is_not_told ns low i n all l e t h = sym (next_line ns low i n l e ∙ rw t (ap (λ b. cond b (first_wrong_from test (n + 1) (i + 1) (drop (i + 1) ns)) (Some i)) (and_false (nat_le low n)))) ∙ h

  pub line_is_right : (ns : List ℕ) (low i n : ℕ) (all : Option ℕ) → i < length ns → n ≡ get_or ns i 0 → low ≤ n → test n ≡ true → first_wrong_from test low i (drop i ns) ≡ all
      → first_wrong_from test (n + 1) (i + 1) (drop (i + 1) ns) ≡ all
  line_is_right ns low i n all l e s t h = sym (next_line ns low i n l e ∙ rw (le-leb low n s, t) refl) ∙ h

  pub lines_end : (ns : List ℕ) (low i : ℕ) (all : Option ℕ) → length ns ≤ i → first_wrong_from test low i (drop i ns) ≡ all → None ≡ all
  lines_end ns low i all l h = sym (ap (first_wrong_from test low i) (drop_all i ns l)) ∙ h

-- ---- the letters that have a line

-- of each of so many letters the list tells whether it is one of these
pub record IsLined (lined : List Bool) (count : ℕ) (letters : List ℕ) : Type 0 where
  pub size : length lined ≡ count
  pub marks : (n : ℕ) → n < count → get_or lined n false ≡ list_any (nat_eq n) letters

pub lined_begins : (lined : List Bool) (count : ℕ) → lined ≡ replicate count false → IsLined lined count []
lined_begins lined count e = record { size = ap length e ∙ length-replicate count false; marks = λ n l. ap (λ ms. get_or ms n false) e ∙ no_marks count n }

pub letter_is_lined : (lined new : List Bool) (count : ℕ) (done more : List ℕ) (letter : ℕ) → more ≡ done ++ letter ∷ [] → letter < count → new ≡ set lined letter true → IsLined lined count done → IsLined new count more
letter_is_lined lined new count done more letter e l f h = subst (λ ns. IsLined new count ns) (sym e) (subst (λ ms. IsLined ms count (done ++ letter ∷ [])) (sym f) (record {
  size = length-set lined letter true ∙ h.size;
  marks = λ n m. by_equality n m (nat_eq n letter) refl ∙ sym (any_more (nat_eq n) done letter);
}))
  where
    by_equality : (n : ℕ) → n < count → (b : Bool) → nat_eq n letter ≡ b → get_or (set lined letter true) n false ≡ (list_any (nat_eq n) done || nat_eq n letter)
    by_equality n m true q =
        let same = eqb-true n letter q in
        ap (λ (k : ℕ). get_or (set lined letter true) k false) same ∙ get_or-set_same lined letter true false (let s = h.size in omega arith) ∙ sym (rw q (or_true (list_any (nat_eq n) done)))
    by_equality n m false q = get_or-set_other lined letter n true false (differ n letter q) ∙ h.marks n m ∙ sym (rw q (or_false (list_any (nat_eq n) done)))

pub letter_is_past : (lined : List Bool) (count : ℕ) (done more : List ℕ) (letter : ℕ) → more ≡ done ++ letter ∷ [] → count ≤ letter → IsLined lined count done → IsLined lined count more
letter_is_past lined count done more letter e l h = subst (λ ns. IsLined lined count ns) (sym e) (record {
  size = h.size;
  marks = λ n m. h.marks n m ∙ sym (any_more (nat_eq n) done letter ∙ rw (ne_eqb n letter (λ same. (omega arith))) (or_false (list_any (nat_eq n) done)));
})

pub letter_is_done : (lined new : List Bool) (count : ℕ) (done more : List ℕ) (letter : ℕ) → more ≡ done ++ letter ∷ [] → new ≡ set lined letter true → IsLined lined count done → IsLined new count more
letter_is_done lined new count done more letter e f h = by_bound (nat_lt letter count) refl
  where
    by_bound : (b : Bool) → nat_lt letter count ≡ b → IsLined new count more
    by_bound true q = letter_is_lined lined new count done more letter e (ltb-true letter count q) f h
    by_bound false q =
        let past : count ≤ letter = ltb-false letter count q in
        let same : new ≡ lined = f ∙ set_past lined letter true (let s = h.size in omega (arith, s, past)) in
        subst (λ ms. IsLined ms count more) (sym same) (letter_is_past lined count done more letter e past h)

-- the marks of another list that is the same
pub lined_by : (xs ys : List Bool) (count : ℕ) (coarse : List ℕ) → xs ≡ ys → length ys ≡ count → ((n : ℕ) → n < count → get_or ys n false ≡ list_any (nat_eq n) coarse) → (n : ℕ) → n < length xs
    → get_or xs n false ≡ list_any (nat_eq n) coarse
lined_by xs ys count coarse e s h n l = ap (λ ms. get_or ms n false) e ∙ h n (let k = ap length e in omega arith)

-- ---- the first triple that lacks its line

module _ {C : Type 0} (view : C → Triple) (test : Triple → Bool) where
  next_triple : (ts : List C) (i : ℕ) (t : C) → i < length ts → t ≡ get_or ts i t
      → position_from test i (map view (drop i ts)) ≡ cond (test (view t)) (Some i) (position_from test (i + 1) (map view (drop (i + 1) ts)))
  next_triple ts i t l e = ap (λ us. position_from test i (map view us)) (drop_more ts i t l) ∙ ap (λ u. position_from test i (view u ∷ map view (drop (i + 1) ts))) (sym e)

  pub triple_lacks : (ts : List C) (i : ℕ) (t : C) (all : Option ℕ) → i < length ts → t ≡ get_or ts i t → true ≡ test (view t) → position_from test i (map view (drop i ts)) ≡ all → Some i ≡ all
  triple_lacks ts i t all l e f h = sym (next_triple ts i t l e ∙ rw (sym f) refl) ∙ h

  pub triple_has : (ts : List C) (i : ℕ) (t : C) (all : Option ℕ) → i < length ts → t ≡ get_or ts i t → false ≡ test (view t) → position_from test i (map view (drop i ts)) ≡ all
      → position_from test (i + 1) (map view (drop (i + 1) ts)) ≡ all
  triple_has ts i t all l e f h = sym (next_triple ts i t l e ∙ rw (sym f) refl) ∙ h

  pub triples_end : (ts : List C) (i : ℕ) (all : Option ℕ) → length ts ≤ i → position_from test i (map view (drop i ts)) ≡ all → None ≡ all
  triples_end ts i all l h = sym (ap (λ us. position_from test i (map view us)) (drop_all i ts l)) ∙ h
