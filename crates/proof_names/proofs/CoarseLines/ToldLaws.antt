-- The coarse letters that triples name.
use Rattle.std.proofs.Common.{◌≡◌, ℕ, zero, suc, ◌+◌, ◌^◌, ◌<◌, ◌≤◌, Bool, true, false, cond, ◌&&◌, ◌||◌, nat_eq, nat_lt, List, [], ◌∷◌, length, Option, None, Some, refl, sym, ap, ◌∙◌, subst, arith}
use Rattle.std.specs.Prelude.{slice_get, unwrap_or}
use Rattle.std.specs.List.{list_any, position_from, range_with_len}
use Rattle.std.proofs.lemmas.Bool.{and_parts, false≢true, ltb-true, eqb-true}
use Rattle.std.proofs.lemmas.Option.{cond_some, none-some}
use Rattle.letter_acts.specs.Invariant.{Graph, mark_at}
use Rattle.proof_form.specs.NumberValues.{number}
use Rattle.proof_form.specs.Lines.{Triple, inside_triple, call_triple, back_triple}
use Rattle.proof_form.specs.Annotations.{Content, AreShort}
use Rattle.proof_names.specs.Numbers.{if_below}
use Rattle.proof_names.specs.CoarseLines.CoarseLetters.{letter_named, is_named_letter, names_letter, is_told, coarse_letters, first_wrong, is_missing, lacks_line, first_missing}
use Rattle.proof_names.proofs.CoarseLines.OrderLaws.{has, by_two, or_false, not_some, right_is_picked, picked_is_right, not_picked, is_picked, all_picked}

-- ---- a letter that is coarse is one of the graph's

marked_within : (marks : List Bool) (n : ℕ) → unwrap_or (slice_get marks n) false ≡ true → n < length marks
marked_within [] n h = absurd (false≢true h)
marked_within (m ∷ marks) zero h = omega arith
marked_within (m ∷ marks) (suc n) h = let l = marked_within marks n h in omega arith

pub coarse_exists : (g : Graph) (n : ℕ) → mark_at g n ≡ true → n < length g.marks
coarse_exists g n h = marked_within g.marks n h

-- ---- a letter that is named has 32 bits

below : (limit n m : ℕ) → if_below limit n ≡ Some m → m < limit
below limit n m h =
    let parts = cond_some (nat_lt n limit) n m h in
    subst (λ (k : ℕ). k < limit) parts.1 (ltb-true n limit parts.0)

short_number : (negative : Bool) (n m : ℕ) → cond negative None (if_below (2 ^ 32) n) ≡ Some m → m < 2 ^ 32
short_number true n m h = absurd (none-some m h)
short_number false n m h = below (2 ^ 32) n m h

pub named_is_short : (t : Triple) (m : ℕ) → letter_named t ≡ Some m → m < 2 ^ 32
named_is_short (inside_triple from letter to proof) m h = short_number letter.negative (number letter.digits) m h
named_is_short (call_triple from letter to proof) m h = short_number letter.negative (number letter.digits) m h
named_is_short (back_triple exit before letter to proof) m h = short_number letter.negative (number letter.digits) m h

-- the letter is the one that is named
the_named : (o : Option ℕ) (n : ℕ) → is_named_letter n o ≡ true → o ≡ Some n
the_named None n h = absurd (false≢true h)
the_named (Some m) n h = ap (λ (k : ℕ). Some k) (eqb-true m n h)

some_named : (ts : List Triple) (n : ℕ) → list_any (names_letter n) ts ≡ true → n < 2 ^ 32
some_named [] n h = absurd (false≢true h)
some_named (t ∷ ts) n h = by_two (names_letter n t)
    (λ e. named_is_short t n (the_named (letter_named t) n e)) (λ e. some_named ts n (or_false (names_letter n t) (list_any (names_letter n) ts) h e))

pub told_is_short : (g : Graph) (ts : List Triple) (n : ℕ) → is_told g ts n ≡ true → n < 2 ^ 32
told_is_short g ts n h = some_named ts n (and_parts (mark_at g n) (list_any (names_letter n) ts) h).1

pub letters_are_short : (g : Graph) (a : Content) → AreShort (coarse_letters g a)
letters_are_short g a = all_picked (is_told g a.triples) (λ n. n < 2 ^ 32) (told_is_short g a.triples) (range_with_len 0 (length g.marks))

-- ---- a letter is among them exactly where it is told

untold_past : (g : Graph) (ts : List Triple) (n : ℕ) → length g.marks ≤ n → is_told g ts n ≡ false
untold_past g ts n l = by_test (is_told g ts n) refl
  where
    by_test : (b : Bool) → is_told g ts n ≡ b → b ≡ false
    by_test false e = refl
    by_test true e = absurd (let m = coarse_exists g n (and_parts (mark_at g n) (list_any (names_letter n) ts) e).0 in omega arith)

pub letters_have : (g : Graph) (a : Content) (n : ℕ) → has (coarse_letters g a) n ≡ is_told g a.triples n
letters_have g a n = by_test (is_told g a.triples n) refl
  where
    by_test : (b : Bool) → is_told g a.triples n ≡ b → has (coarse_letters g a) n ≡ b
    by_test false e = not_picked (is_told g a.triples) (range_with_len 0 (length g.marks)) n e
    by_test true e =
        let low = coarse_exists g n (and_parts (mark_at g n) (list_any (names_letter n) a.triples) e).0 in
        is_picked (is_told g a.triples) (length g.marks) 0 n (omega arith) (omega arith) e

-- ---- where no triple lacks a line, each letter that is told has one

not_first : (b : Bool) (k : ℕ) (o : Option ℕ) → cond b (Some k) o ≡ None → (b ≡ false) × (o ≡ None)
not_first true k o h = absurd (not_some k h)
not_first false k o h = (refl, h)

has_line : (g : Graph) (coarse : List ℕ) (n : ℕ) → mark_at g n ≡ true → lacks_line g coarse (Some n) ≡ false → has coarse n ≡ true
has_line g coarse n m h = by_test (has coarse n) refl
  where
    by_test : (b : Bool) → has coarse n ≡ b → b ≡ true
    by_test true e = refl
    by_test false e = absurd (false≢true (sym h ∙ rw (m, e) refl))

covered : (g : Graph) (coarse : List ℕ) (ts : List Triple) (k n : ℕ) → position_from (λ t. lacks_line g coarse (letter_named t)) k ts ≡ None → mark_at g n ≡ true → list_any (names_letter n) ts ≡ true → has coarse n ≡ true
covered g coarse [] k n h m e = absurd (false≢true e)
covered g coarse (t ∷ ts) k n h m e =
    let parts = not_first (lacks_line g coarse (letter_named t)) k (position_from (λ u. lacks_line g coarse (letter_named u)) (k + 1) ts) h in
    by_two (names_letter n t) (λ q. has_line g coarse n m (ap (lacks_line g coarse) (sym (the_named (letter_named t) n q)) ∙ parts.0))
    (λ q. covered g coarse ts (k + 1) n parts.1 m (or_false (names_letter n t) (list_any (names_letter n) ts) e q))

pub right_is_letters : (g : Graph) (coarse : List ℕ) (a : Content) → first_wrong g coarse a ≡ None → first_missing g coarse a ≡ None → coarse ≡ coarse_letters g a
right_is_letters g coarse a h k =
    right_is_picked (is_told g a.triples) (length g.marks) 0 0 coarse (λ n l. untold_past g a.triples n (omega arith)) h
    (λ n l p. let both = and_parts (mark_at g n) (list_any (names_letter n) a.triples) p in covered g coarse a.triples 0 n k both.0 both.1)

-- ---- and the letters are right, and none is missing

pub letters_are_right : (g : Graph) (a : Content) → first_wrong g (coarse_letters g a) a ≡ None
letters_are_right g a = picked_is_right (is_told g a.triples) (length g.marks) 0 0 0 (omega arith)

none_lack : (g : Graph) (coarse : List ℕ) (all ts : List Triple) (k : ℕ) → ((n : ℕ) → has coarse n ≡ is_told g all n) → ((n : ℕ) → list_any (names_letter n) ts ≡ true → list_any (names_letter n) all ≡ true)
    → position_from (λ t. lacks_line g coarse (letter_named t)) k ts ≡ None
none_lack g coarse all [] k is within = refl
none_lack g coarse all (t ∷ ts) k is within = rw (not_lacking (letter_named t) refl) (none_lack g coarse all ts (k + 1) is (λ n h. within n (or_right (names_letter n t) _ h)))
  where
    or_right : (a b : Bool) → b ≡ true → (a || b) ≡ true
    or_right true b h = refl
    or_right false b h = h

    same_number : (n : ℕ) → nat_eq n n ≡ true
    same_number n = search Rattle.std.proofs.Common.rules

    by_mark : (n : ℕ) (b : Bool) → mark_at g n ≡ b → letter_named t ≡ Some n → (b && is_missing coarse n) ≡ false
    by_mark n false m e = refl
    by_mark n true m e =
        let named : names_letter n t ≡ true = ap (is_named_letter n) e ∙ same_number n in
        let told : is_told g all n ≡ true = rw (m, within n (rw named refl)) refl in
        rw (is n, told) refl

    not_lacking : (o : Option ℕ) → letter_named t ≡ o → lacks_line g coarse (letter_named t) ≡ false
    not_lacking None e = ap (lacks_line g coarse) e
    not_lacking (Some n) e = ap (lacks_line g coarse) e ∙ by_mark n (mark_at g n) refl e

pub letters_are_all : (g : Graph) (a : Content) → first_missing g (coarse_letters g a) a ≡ None
letters_are_all g a = none_lack g (coarse_letters g a) a.triples a.triples 0 (letters_have g a) (λ n h. h)

pub letters_compared : (g : Graph) (coarse : List ℕ) (a : Content) → coarse ≡ coarse_letters g a → (first_wrong g coarse a ≡ None) × (first_missing g coarse a ≡ None)
letters_compared g coarse a e =
    subst (λ (ns : List ℕ). (first_wrong g ns a ≡ None) × (first_missing g ns a ≡ None)) (sym e) (letters_are_right g a, letters_are_all g a)
