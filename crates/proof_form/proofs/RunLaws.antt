-- Runs of bytes, names and numerals at the front.
use Rattle.std.proofs.Common.{◌≡◌, ℕ, Bool, true, false, not, cond, ◌&&◌, ◌||◌, nat_eq, List, [], ◌∷◌, ◌++◌, length, refl, sym, ap, ◌∙◌, arith}
use Rattle.std.specs.List.{list_all, prefix_len}
use Rattle.std.proofs.lemmas.Bool.{false≢true, eqb-true, or_left, or_right}
use Rattle.std.proofs.lemmas.Bool.Decides.{nat_tests}
use Rattle.std.proofs.lemmas.List.{take-append-drop, take_at, drop_at}
use Rattle.boogie_tree.specs.Names.{is_digit, is_name_byte, is_name, is_name_or_number, is_letter, is_name_mark, is_made_mark, is_made, is_spelled}
use Rattle.proof_form.specs.declared.numerals.Numeral.{Numeral}
use Rattle.proof_form.specs.Names.{is_column_mark, is_column}
use Rattle.proof_form.specs.Numerals.{is_numeral, numeral_text}
use Rattle.proof_form.specs.Reading.{is_word_byte, is_number_byte, run_at, word_at, numeral_of, number_at}

-- both of two tests hold
pub both_hold : (a b : Bool) → (a && b) ≡ true → (a ≡ true) × (b ≡ true)
both_hold true b h = (refl, h)
both_hold false b h = absurd (false≢true h)

-- all of a run is at the front, where no byte of that kind follows
pub run_length : (p : ℕ → Bool) (run rest : List ℕ) → list_all p run ≡ true → prefix_len p rest ≡ 0 → prefix_len p (run ++ rest) ≡ length run
run_length p [] rest h stop = stop
run_length p (b ∷ run) rest h stop =
    let k = both_hold (p b) (list_all p run) h in rw (k.0, run_length p run rest k.1 stop) (omega arith)

pub run_reads : (p : ℕ → Bool) (run rest : List ℕ) → list_all p run ≡ true → prefix_len p rest ≡ 0 → run_at p (run ++ rest) ≡ (run, rest)
run_reads p run rest h stop = rw (run_length p run rest h stop, take_at run rest (length run) refl, drop_at run rest (length run) refl) refl

pub run_spells : (p : ℕ → Bool) (bs : List ℕ) → bs ≡ (run_at p bs).0 ++ (run_at p bs).1
run_spells p bs = sym (take-append-drop (prefix_len p bs) bs)

-- Numerals

pub numeral_of_text : (negative : Bool) (ds : List ℕ) → is_numeral (record { negative = negative; digits = ds }) ≡ true → numeral_of (numeral_text (record { negative = negative; digits = ds })) ≡ record { negative = negative; digits = ds }
numeral_of_text true ds h = refl
numeral_of_text false [] h = refl
numeral_of_text false (d ∷ ds) h =
    let k = both_hold (is_digit d && list_all is_digit ds) _ h in
    let j = both_hold (is_digit d) _ k.0 in
    let no : nat_eq d 45 ≡ false = not_minus d j.0 in rw no refl
  where
    not_minus : (d : ℕ) → is_digit d ≡ true → nat_eq d 45 ≡ false
    not_minus d h = grind (arith, nat_tests)

pub text_of_numeral : (bs : List ℕ) → numeral_text (numeral_of bs) ≡ bs
text_of_numeral [] = refl
text_of_numeral (b ∷ bs) = go (nat_eq b 45) refl
  where
    go : (t : Bool) → nat_eq b 45 ≡ t → numeral_text (cond t (record { negative = true; digits = bs }) (record { negative = false; digits = b ∷ bs })) ≡ b ∷ bs
    go true e = ap (λ c. c ∷ bs) (sym (eqb-true b 45 e))
    go false e = refl

-- digits are bytes of numerals
digits_are : (ds : List ℕ) → list_all is_digit ds ≡ true → list_all is_number_byte ds ≡ true
digits_are [] h = refl
digits_are (d ∷ ds) h =
    let k = both_hold (is_digit d) _ h in
    rw (here d k.0, digits_are ds k.1) refl
  where
    here : (d : ℕ) → is_digit d ≡ true → is_number_byte d ≡ true
    here d h = grind (arith, nat_tests)

pub numeral_bytes : (negative : Bool) (ds : List ℕ) → is_numeral (record { negative = negative; digits = ds }) ≡ true → list_all is_number_byte (numeral_text (record { negative = negative; digits = ds })) ≡ true
numeral_bytes true ds h = let k = both_hold (list_all is_digit ds) _ h in digits_are ds k.0
numeral_bytes false ds h = let k = both_hold (list_all is_digit ds) _ h in digits_are ds k.0

-- what is read is spelled so
pub number_spells : (bs : List ℕ) → bs ≡ numeral_text (number_at bs).0 ++ (number_at bs).1
unfolding number_at
number_spells bs = run_spells is_number_byte bs ∙ ap (λ r. r ++ (run_at is_number_byte bs).1) (sym (text_of_numeral (run_at is_number_byte bs).0))

-- what is spelled so is read, where no byte of a numeral follows
pub number_reads : (n : Numeral) (rest : List ℕ) → is_numeral n ≡ true → prefix_len is_number_byte rest ≡ 0 → number_at (numeral_text n ++ rest) ≡ (n, rest)
unfolding number_at
number_reads n rest h stop =
    ap (λ r. (numeral_of r.0, r.1)) (run_reads is_number_byte (numeral_text n) rest (numeral_bytes n.negative n.digits h) stop) ∙ ap (λ m. (m, rest)) (numeral_of_text n.negative n.digits h)

-- Names of procedures and columns

pub word_spells : (bs : List ℕ) → bs ≡ (word_at bs).0 ++ (word_at bs).1
unfolding word_at
word_spells bs = run_spells is_word_byte bs

pub all_weaker : (p q : ℕ → Bool) → ((b : ℕ) → p b ≡ true → q b ≡ true) → (bs : List ℕ) → list_all p bs ≡ true → list_all q bs ≡ true
all_weaker p q w [] h = refl
all_weaker p q w (b ∷ bs) h = let k = both_hold (p b) _ h in rw (w b k.0, all_weaker p q w bs k.1) refl

or_cases : {P : Type 0} (a b : Bool) → (a || b) ≡ true → (a ≡ true → P) → (b ≡ true → P) → P
or_cases true b h f g = f refl
or_cases false b h f g = g h

name_bytes_are : (bs : List ℕ) → list_all is_name_byte bs ≡ true → list_all is_word_byte bs ≡ true
name_bytes_are bs h = all_weaker is_name_byte is_word_byte (λ b k. or_right (nat_eq b 58) (is_name_byte b) k) bs h

digit_in_name : (b : ℕ) → is_digit b ≡ true → is_name_byte b ≡ true
digit_in_name b h = or_left (is_letter b || is_digit b) (is_name_mark b) (or_right (is_letter b) (is_digit b) h)

name_is_word : (bs : List ℕ) → is_name bs ≡ true → list_all is_word_byte bs ≡ true
name_is_word [] h = refl
name_is_word (b ∷ bs) h = let k = both_hold (not (is_digit b)) _ h in name_bytes_are (b ∷ bs) k.1

marked_is_word : (bs : List ℕ) → is_name_or_number bs ≡ true → list_all is_word_byte bs ≡ true
marked_is_word [] h = refl
marked_is_word (b ∷ bs) h = or_cases (list_all is_digit (b ∷ bs)) (is_name (b ∷ bs)) h
    (λ k. name_bytes_are (b ∷ bs) (all_weaker is_digit is_name_byte digit_in_name (b ∷ bs) k)) (name_is_word (b ∷ bs))

colon_with : (a b : ℕ) (bs : List ℕ) → is_word_byte a ≡ true → nat_eq b 58 ≡ true → list_all is_word_byte bs ≡ true → list_all is_word_byte (a ∷ (b ∷ bs)) ≡ true
colon_with a b bs h k l = rw (h, k, l) refl

mark_is_word : (a : ℕ) → is_made_mark a ≡ true → is_word_byte a ≡ true
mark_is_word a h = or_cases (nat_eq a 104) (nat_eq a 109) h (λ e. rw (eqb-true a 104 e) refl) (λ e. rw (eqb-true a 109 e) refl)

made_is_word : (bs : List ℕ) → is_made bs ≡ true → list_all is_word_byte bs ≡ true
made_is_word [] h = absurd (false≢true h)
made_is_word (a ∷ []) h = absurd (false≢true h)
made_is_word (a ∷ (b ∷ bs)) h =
    let k = both_hold (is_made_mark a) _ h in
    let j = both_hold (nat_eq b 58) _ k.1 in colon_with a b bs (mark_is_word a k.0) j.0 (marked_is_word bs j.1)

pub procedure_is_word : (bs : List ℕ) → is_spelled bs ≡ true → list_all is_word_byte bs ≡ true
procedure_is_word bs h = or_cases (is_name bs) (is_made bs) h (name_is_word bs) (made_is_word bs)

column_mark_is_word : (a : ℕ) → is_column_mark a ≡ true → is_word_byte a ≡ true
column_mark_is_word a h = or_cases (nat_eq a 103) (nat_eq a 111 || nat_eq a 108) h (λ e. rw (eqb-true a 103 e) refl)
    (λ k. or_cases (nat_eq a 111) (nat_eq a 108) k (λ e. rw (eqb-true a 111 e) refl) (λ e. rw (eqb-true a 108 e) refl))

pub column_is_word : (bs : List ℕ) → is_column bs ≡ true → list_all is_word_byte bs ≡ true
column_is_word [] h = absurd (false≢true h)
column_is_word (a ∷ []) h = absurd (false≢true h)
column_is_word (a ∷ (b ∷ bs)) h =
    let k = both_hold (is_column_mark a) _ h in
    let j = both_hold (nat_eq b 58) _ k.1 in colon_with a b bs (column_mark_is_word a k.0) j.0 (procedure_is_word bs j.1)

-- what is spelled so is read, where no byte of a name follows
pub procedure_reads : (name rest : List ℕ) → is_spelled name ≡ true → prefix_len is_word_byte rest ≡ 0 → word_at (name ++ rest) ≡ (name, rest)
unfolding word_at
procedure_reads name rest h stop = run_reads is_word_byte name rest (procedure_is_word name h) stop

pub column_reads : (name rest : List ℕ) → is_column name ≡ true → prefix_len is_word_byte rest ≡ 0 → word_at (name ++ rest) ≡ (name, rest)
unfolding word_at
column_reads name rest h stop = run_reads is_word_byte name rest (column_is_word name h) stop
