-- What may stand behind the word of a line: it has no newline, and is told by its text.
use Rattle.std.proofs.Common.{◌≡◌, ℕ, ◌^◌, ◌<◌, Bool, true, false, not, nat_eq, List, [], ◌∷◌, ◌++◌, IsTrue, refl, sym, ap, ◌∙◌, arith, append_assoc}
use Rattle.std.specs.List.{AllByRecursion, list_all, flat_map}
use Rattle.std.specs.Fmt.{decimal}
use Rattle.std.proofs.lemmas.Bool.Decides.{nat_tests}
use Rattle.boogie_tree.specs.Names.{is_digit}
use Rattle.trace_replay.proofs.Decimals.{AreDigits, decimal_digits, decimal_injective}
use Rattle.proof_form.specs.declared.numerals.Numeral.{Numeral}
use Rattle.proof_form.specs.Names.{is_column}
use Rattle.proof_form.specs.Numerals.{is_numeral, numeral_text}
use Rattle.proof_form.specs.Predicates.{term_text}
use Rattle.proof_form.specs.Reading.{is_word_byte, is_number_byte, numeral_of}
use Rattle.proof_form.specs.Refutations.{RefutationNode, is_refutation, refutation_text}
use Rattle.proof_form.specs.RefutationReading.{refutation_of}
use Rattle.proof_form.proofs.PlainLaws.{is_inside, plain_refutation}
use Rattle.proof_form.proofs.RefutationLaws.{refutation_reads}
use Rattle.proof_form.proofs.RunLaws.{both_hold, all_weaker, numeral_bytes, numeral_of_text, column_is_word}
use Rattle.rank_lasso.specs.LassoText.{letters_text, AreShort}
use Rattle.rank_lasso.specs.RankingText.{is_rank_term, IsProofForm}
use Rattle.rank_lasso.specs.Lines.{differs, HasNo, Content, nothing, letters, some_letters, terms, number, natural, tree, AreTerms, IsContent}
use Rattle.rank_lasso.proofs.Cuts.{same_word}
use Rattle.rank_lasso.proofs.Items.{IsOneItem, AreBegun, same_items}

-- ---- bytes that are not there

all_joined : (p : ℕ → Bool) (a b : List ℕ) → list_all p a ≡ true → list_all p b ≡ true → list_all p (a ++ b) ≡ true
all_joined p [] b h k = k
all_joined p (x ∷ a) b h k = let j = both_hold (p x) (list_all p a) h in rw (j.0, all_joined p a b j.1 k) refl

all_texts : {A : Type 0} (p : ℕ → Bool) (P : A → Type 0) (text : A → List ℕ) → ((x : A) → P x → list_all p (text x) ≡ true) → (xs : List A) → AllByRecursion P xs → list_all p (flat_map text xs) ≡ true
all_texts p P text f [] h = refl
all_texts p P text f (x ∷ xs) h = all_joined p (text x) (flat_map text xs) (f x h.0) (all_texts p P text f xs h.1)

digit_differs : (end : ℕ) → is_digit end ≡ false → (b : ℕ) → is_digit b ≡ true → differs end b ≡ true
digit_differs end h b k = by_test (nat_eq b end) refl
  where
    by_test : (t : Bool) → nat_eq b end ≡ t → not t ≡ true
    by_test true e = absurd (grind (arith, nat_tests))
    by_test false e = refl

digits_differ : (end : ℕ) → is_digit end ≡ false → (ds : List ℕ) → AreDigits ds → HasNo end ds
digits_differ end h [] k = refl
digits_differ end h (d ∷ ds) k = rw (digit_differs end h d k.0, digits_differ end h ds k.1) refl

-- the digits of a number
pub decimal_has_no : (end n : ℕ) → is_digit end ≡ false → n < 2 ^ 32 → HasNo end (decimal n)
decimal_has_no end n h l = digits_differ end h (decimal n) (decimal_digits n (omega arith))

number_has_no_end : (n : ℕ) → n < 2 ^ 64 → HasNo 10 (decimal n)
number_has_no_end n l = digits_differ 10 refl (decimal n) (decimal_digits n (omega arith))

-- a numeral
number_byte_differs : (b : ℕ) → is_number_byte b ≡ true → differs 32 b ≡ true
number_byte_differs b h = grind (arith, nat_tests)

number_byte_ends : (b : ℕ) → is_number_byte b ≡ true → differs 10 b ≡ true
number_byte_ends b h = grind (arith, nat_tests)

pub numeral_has_no_space : (n : Numeral) → is_numeral n ≡ true → HasNo 32 (numeral_text n)
numeral_has_no_space n h = all_weaker is_number_byte (differs 32) number_byte_differs (numeral_text n) (numeral_bytes n.negative n.digits h)

numeral_has_no_end : (n : Numeral) → is_numeral n ≡ true → HasNo 10 (numeral_text n)
numeral_has_no_end n h = all_weaker is_number_byte (differs 10) number_byte_ends (numeral_text n) (numeral_bytes n.negative n.digits h)

-- the name of a column
word_byte_differs : (b : ℕ) → is_word_byte b ≡ true → differs 32 b ≡ true
word_byte_differs b h = grind (arith, nat_tests)

word_byte_ends : (b : ℕ) → is_word_byte b ≡ true → differs 10 b ≡ true
word_byte_ends b h = grind (arith, nat_tests)

pub column_has_no_space : (c : List ℕ) → is_column c ≡ true → HasNo 32 c
column_has_no_space c h = all_weaker is_word_byte (differs 32) word_byte_differs c (column_is_word c h)

column_has_no_end : (c : List ℕ) → is_column c ≡ true → HasNo 10 c
column_has_no_end c h = all_weaker is_word_byte (differs 10) word_byte_ends c (column_is_word c h)

-- a term
term_has_no_end : (t : Numeral × List ℕ) → IsTrue (is_rank_term t) → HasNo 10 (term_text t)
term_has_no_end t h =
    let k = both_hold (is_numeral t.0) (is_column t.1) h in
    all_joined (differs 10) (numeral_text t.0) (32 ∷ t.1) (numeral_has_no_end t.0 k.0) (column_has_no_end t.1 k.1)

-- a tree
inside_differs : (b : ℕ) → is_inside b ≡ true → differs 10 b ≡ true
inside_differs b h = grind (arith, nat_tests)

-- no content has a newline
pub content_has_no_end : (k : Content) (bytes : List ℕ) → IsContent k bytes → HasNo 10 bytes
content_has_no_end nothing bytes h = rw h refl
content_has_no_end letters bytes h = rw (h.2) (all_texts (differs 10) (λ n. n < 2 ^ 32) (λ n. 32 ∷ decimal n) (λ n l. decimal_has_no 10 n refl l) h.0 h.1)
content_has_no_end some_letters bytes h = rw (h.2) (all_texts (differs 10) (λ n. n < 2 ^ 32) (λ n. 32 ∷ decimal n) (λ n l. decimal_has_no 10 n refl l) h.0 h.1.0)
content_has_no_end terms bytes h = rw (h.2) (all_texts (differs 10) (λ t. IsTrue (is_rank_term t)) term_text term_has_no_end h.0 h.1)
content_has_no_end number bytes h = rw (h.2) (numeral_has_no_end h.0 h.1)
content_has_no_end natural bytes h = rw (h.2) (number_has_no_end h.0 h.1)
content_has_no_end tree bytes h = rw (h.2) (all_weaker is_inside (differs 10) inside_differs (refutation_text h.0) (plain_refutation h.0 h.1.tree))

-- ---- what is told by its text

pub letters_begun : AreBegun (λ n. 32 ∷ decimal n)
letters_begun n = (decimal n, refl)

pub letters_are_one : IsOneItem (λ n. n < 2 ^ 32) (λ n. 32 ∷ decimal n)
letters_are_one m n a b k l i j e =
    let rest : decimal m ++ a ≡ decimal n ++ b = cc in
    let w = same_word (decimal m) (decimal n) a b (decimal_has_no 32 m refl k) i (decimal_has_no 32 n refl l) j rest in
    (decimal_injective m n (omega arith) (omega arith) w.0, w.1)

pub same_letters : (m n : List ℕ) → AreShort m → AreShort n → letters_text m ≡ letters_text n → m ≡ n
same_letters m n h k e = same_items (λ (x : ℕ). x < 2 ^ 32) (λ x. 32 ∷ decimal x) letters_begun letters_are_one m n h k e

-- a numeral is told by its text
pub same_numeral : (m n : Numeral) → is_numeral m ≡ true → is_numeral n ≡ true → numeral_text m ≡ numeral_text n → m ≡ n
same_numeral m n h k e = sym (numeral_of_text m.negative m.digits h) ∙ ap numeral_of e ∙ numeral_of_text n.negative n.digits k

pub terms_begun : AreBegun term_text
terms_begun t = (numeral_text t.0 ++ 32 ∷ t.1, refl)

pub terms_are_one : IsOneItem (λ t. IsTrue (is_rank_term t)) term_text
terms_are_one t u a b h k i j e =
    let p = both_hold (is_numeral t.0) (is_column t.1) h in
    let q = both_hold (is_numeral u.0) (is_column u.1) k in
    let rest : (numeral_text t.0 ++ 32 ∷ t.1) ++ a ≡ (numeral_text u.0 ++ 32 ∷ u.1) ++ b = cc in
    let split : numeral_text t.0 ++ (32 ∷ (t.1 ++ a)) ≡ numeral_text u.0 ++ (32 ∷ (u.1 ++ b)) =
    sym (append_assoc (numeral_text t.0) (32 ∷ t.1) a) ∙ rest ∙ append_assoc (numeral_text u.0) (32 ∷ u.1) b in
    let w = same_word (numeral_text t.0) (numeral_text u.0) (32 ∷ (t.1 ++ a)) (32 ∷ (u.1 ++ b)) (numeral_has_no_space t.0 p.0) refl (numeral_has_no_space u.0 q.0) refl split in
    let behind : t.1 ++ a ≡ u.1 ++ b = (let r = w.1 in cc) in
    let c = same_word t.1 u.1 a b (column_has_no_space t.1 p.1) i (column_has_no_space u.1 q.1) j behind in
    let n = same_numeral t.0 u.0 p.0 q.0 w.0 in
    (λ i. (n i, c.0 i), c.1)

pub same_terms : (t u : List (Numeral × List ℕ)) → AreTerms t → AreTerms u → flat_map term_text t ≡ flat_map term_text u → t ≡ u
same_terms t u h k e = same_items (λ (x : Numeral × List ℕ). IsTrue (is_rank_term x)) term_text terms_begun terms_are_one t u h k e

pub same_refutation : (m n : List RefutationNode) → is_refutation m ≡ true → is_refutation n ≡ true → refutation_text m ≡ refutation_text n → m ≡ n
same_refutation m n h k e =
    let s = sym (refutation_reads m h) ∙ ap refutation_of e ∙ refutation_reads n k in
    cc

pub same_tree : (m n : List RefutationNode) → IsProofForm m → IsProofForm n → refutation_text m ≡ refutation_text n → m ≡ n
same_tree m n h k e = same_refutation m n h.tree k.tree e
