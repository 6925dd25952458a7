-- Texts that are written one behind another, and the signs that each has: words, literals and marks.
use Rattle.std.proofs.Common.{◌≡◌, ℕ, suc, ◌^◌, ◌<◌, ◌≤◌, ◌==◌, pos, Bool, true, false, ◌||◌, ◌&&◌, not, nat_lt, List, [], ◌∷◌, ◌++◌, length, None, Some, if◌then◌else◌, refl, ap, sym, ◌∙◌, subst, arith, append_assoc}
use Rattle.std.specs.List.{list_all}
use Rattle.std.specs.Fmt.{decimal}
use Rattle.std.specs.Str.{bytes_eq}
use Rattle.std.specs.Str.Parse.{digits_value, AllDigits}
use Rattle.std.proofs.Math.Seq.{take-append_seam, drop-append_seam}
use Rattle.std.proofs.lemmas.Bool.{and_parts, or_parts, or_from, eqb-true, not-true, false≢true}
use Rattle.std.proofs.lemmas.Bool.Decides.{nat_tests}
use Rattle.std.proofs.lemmas.Fmt.{decimal_is_IsNumeral_wide}
use Rattle.std.proofs.lemmas.Str.Parse.{digit_at}
use Rattle.std.proofs.lemmas.Slice.Eq.{bytes_eq-Decides}
use Rattle.boogie_tree.specs.Names.{is_digit, is_letter, is_name_mark, is_name_byte}
use Rattle.boogie_parse.specs.declared.fault.What.{What}
use Rattle.boogie_parse.specs.declared.token.TokenKind.TheVariants as kinds
use Rattle.boogie_parse.specs.declared.symbols.Fixed.TheVariants as fixed
use Rattle.boogie_parse.specs.declared.symbols.Sign.{Sign}
use Rattle.boogie_parse.specs.declared.symbols.Sign.TheVariants as signs
use Rattle.boogie_parse.specs.Lexing.Bytes.{is_blank}
use Rattle.boogie_parse.specs.Lexing.Tokens.{passing_length, begins_with, makes_real}
use Rattle.boogie_parse.specs.Lexing.Pieces.{Found, Lexeme, literal_front}
use Rattle.boogie_parse.specs.Lexing.Lexed.{left_out, beside_text}
use Rattle.boogie_parse.specs.Lexing.Symbols.{spellings, sign_of}
use Rattle.boogie_parse.specs.Ties.Turns.{front_of}
use Rattle.boogie_parse.specs.Spelling.PrintedTokens.{begins_word, IsFreeWord}
use Rattle.boogie_parse.proofs.Lexing.Blanks.{at_blank}
use Rattle.boogie_parse.proofs.Lexing.FrontTurns.{name_first, digit_first}
use Rattle.boogie_parse.proofs.Spelling.PrintedPieces.{HasTokens, IsRead, is_colon, token_first, token_before_colon, blank_before}

-- no word and no literal goes on into the text
abbrev pub Ends : List ℕ → Type 0
Ends rest = begins_with is_name_byte rest ≡ false

-- The text has these signs, whatever follows.
pub record Tells (text : List ℕ) (ss : List Sign) : Type 0 where
  pub go : (rest : List ℕ) (more : List Sign) → IsRead rest more → IsRead (text ++ rest) (ss ++ more)

-- The text has these signs, where what follows carries no word on.
pub record TellsEnded (text : List ℕ) (ss : List Sign) : Type 0 where
  pub go : (rest : List ℕ) (more : List Sign) → Ends rest → IsRead rest more → IsRead (text ++ rest) (ss ++ more)

-- The text ends a word before it, whatever follows.
abbrev pub Stops : List ℕ → Type 0
Stops text = (rest : List ℕ) → Ends (text ++ rest)

-- ---- one behind another

pub nothing_told : Tells [] []
nothing_told = record { go = λ rest more r. r }

pub weaker : {a : List ℕ} {sa : List Sign} → Tells a sa → TellsEnded a sa
weaker {a} {sa} x = record { go = λ rest more ends r. x.go rest more r }

joined_read : (a b rest : List ℕ) (sa sb more : List Sign) → IsRead (a ++ (b ++ rest)) (sa ++ (sb ++ more)) → IsRead ((a ++ b) ++ rest) ((sa ++ sb) ++ more)
joined_read a b rest sa sb more r = rw (append_assoc a b rest, append_assoc sa sb more) r

pub next : {a b : List ℕ} {sa sb : List Sign} → Tells a sa → Tells b sb → Tells (a ++ b) (sa ++ sb)
next {a} {b} {sa} {sb} x y = record { go = λ rest more r. joined_read a b rest sa sb more (x.go (b ++ rest) (sb ++ more) (y.go rest more r)) }

pub next_ended : {a b : List ℕ} {sa sb : List Sign} → Tells a sa → TellsEnded b sb → TellsEnded (a ++ b) (sa ++ sb)
next_ended {a} {b} {sa} {sb} x y = record { go = λ rest more ends r. joined_read a b rest sa sb more (x.go (b ++ rest) (sb ++ more) (y.go rest more ends r)) }

pub ended : {a b : List ℕ} {sa sb : List Sign} → TellsEnded a sa → Stops b → Tells b sb → Tells (a ++ b) (sa ++ sb)
ended {a} {b} {sa} {sb} x stops y = record { go = λ rest more r. joined_read a b rest sa sb more (x.go (b ++ rest) (sb ++ more) (stops rest) (y.go rest more r)) }

pub both_ended : {a b : List ℕ} {sa sb : List Sign} → TellsEnded a sa → ((rest : List ℕ) → Ends rest → Ends (b ++ rest)) → TellsEnded b sb → TellsEnded (a ++ b) (sa ++ sb)
both_ended {a} {b} {sa} {sb} x stops y = record {
  go = λ rest more ends r. joined_read a b rest sa sb more (x.go (b ++ rest) (sb ++ more) (stops rest ends) (y.go rest more ends r));
}

-- the same text and signs, grouped otherwise
pub same : {a b : List ℕ} {sa sb : List Sign} → Tells a sa → a ≡ b → sa ≡ sb → Tells b sb
same {a} {b} {sa} {sb} x e f = subst (λ t. Tells t sb) e (subst (Tells a) f x)

pub blank : (b : ℕ) → is_blank b ≡ true → Tells (b ∷ []) []
blank b is = record { go = λ rest more r. blank_before b rest more is r }

-- ---- words

run_all : (p : ℕ → Bool) (w rest : List ℕ) → list_all p w ≡ true → begins_with p rest ≡ false → length w ≡ passing_length p (w ++ rest)
run_all p [] [] all ends = refl
run_all p [] (b ∷ r) all ends = rw ends refl
run_all p (b ∷ w) rest all ends =
    let parts = and_parts (p b) (list_all p w) all in
    rw parts.0 (ap suc (run_all p w rest parts.1 ends))

-- a byte that is in a class without blanks is none
pub no_blank : (p : ℕ → Bool) (b : ℕ) → p 32 ≡ false → p 9 ≡ false → p 10 ≡ false → p 13 ≡ false → p b ≡ true → is_blank b ≡ false
no_blank p b space tab feed return passes = by_case (is_blank b) refl
  where
    by_case : (t : Bool) → is_blank b ≡ t → t ≡ false
    by_case false is = refl
    by_case true is = sym passes ∙ at_blank (λ c. p c ≡ false) b is space tab feed return

word_front : (w rest : List ℕ) → begins_word w ≡ true → list_all is_name_byte w ≡ true → Ends rest → Some (Found (Lexeme kinds.Word) (length w)) ≡ front_of (w ++ rest)
word_front [] rest begins all ends = absurd (false≢true begins)
word_front (b ∷ w) rest begins all ends =
    let name : is_name_byte b ≡ true = (and_parts (is_name_byte b) (list_all is_name_byte w) all).0 in
    name_first (b ∷ (w ++ rest)) b (w ++ rest) (length (b ∷ w)) refl (no_blank is_name_byte b refl refl refl refl name) (not-true (is_digit b) begins) name
    (run_all is_name_byte (b ∷ w) rest all ends)

-- a word with its sign
pub record IsWord (w : List ℕ) (s : Sign) : Type 0 where
  pub begins : begins_word w ≡ true
  pub bytes : list_all is_name_byte w ≡ true
  pub supported : beside_text w left_out ≡ None
  pub means : sign_of kinds.Word w ≡ s
  pub plain : is_colon s ≡ false

pub name_word : {w : List ℕ} → IsFreeWord w → IsWord w (signs.Name w)
name_word {w} n = record { begins = n.begins; bytes = n.bytes; supported = n.supported; means = n.free; plain = refl }

pub keyword : (w : List ℕ) → begins_word w ≡ true → list_all is_name_byte w ≡ true → beside_text w left_out ≡ None → is_colon (sign_of kinds.Word w) ≡ false → IsWord w (sign_of kinds.Word w)
keyword w begins bytes supported plain = record { begins = begins; bytes = bytes; supported = supported; means = refl; plain = plain }

pub word_read : {w : List ℕ} {s : Sign} → IsWord w s → (rest : List ℕ) (more : List Sign) → Ends rest → IsRead rest more → IsRead (w ++ rest) (s ∷ more)
word_read {w} {s} is rest more ends r = record {
  has = subst (λ x. HasTokens (w ++ rest) (x ∷ more)) is.means (token_first kinds.Word w rest more (word_front w rest is.begins is.bytes ends) is.supported r);
  plain = is.plain;
}

pub word : {w : List ℕ} {s : Sign} → IsWord w s → TellsEnded w (s ∷ [])
word {w} {s} is = record { go = λ rest more ends r. word_read is rest more ends r }

-- a word and a space
pub word_space : {w : List ℕ} {s : Sign} → IsWord w s → Tells (w ++ 32 ∷ []) (s ∷ [])
word_space {w} {s} is = ended (word is) (λ rest. refl) (blank 32 refl)

-- ---- literals

-- what is no byte of a name is none of those that are
not_byte : (k b : ℕ) → is_name_byte k ≡ true → is_name_byte b ≡ false → (b == k) ≡ false
not_byte k b name other = by_case (b == k) refl
  where
    by_case : (t : Bool) → (b == k) ≡ t → t ≡ false
    by_case false is = refl
    by_case true is = sym name ∙ ap is_name_byte (sym (eqb-true b k is)) ∙ other

ends_digits : (rest : List ℕ) → Ends rest → begins_with is_digit rest ≡ false
ends_digits [] ends = refl
ends_digits (b ∷ r) ends = (or_parts (is_letter b) (is_digit b) (or_parts (is_letter b || is_digit b) (is_name_mark b) ends).0).1

makes_no_real : (rest : List ℕ) → Ends rest → makes_real rest ≡ false
makes_no_real [] ends = refl
makes_no_real (b ∷ r) ends =
    let letter : is_letter b ≡ false = (or_parts (is_letter b) (is_digit b) (or_parts (is_letter b || is_digit b) (is_name_mark b) ends).0).0 in
    or_from (is_letter b || b == 95) (b == 46 && begins_with is_digit r) (or_from (is_letter b) (b == 95) letter (not_byte 95 b refl ends))
    (and_none (b == 46) (begins_with is_digit r) (not_byte 46 b refl ends))
  where
    and_none : (x y : Bool) → x ≡ false → (x && y) ≡ false
    and_none false y h = refl
    and_none true y h = cc

digit_byte : (b : ℕ) → AllDigits 10 (b ∷ []) → is_digit b ≡ true
digit_byte b h =
    let within = digit_at (b ∷ []) 0 h (omega arith) in
    let low : 48 ≤ b = within.0 in
    let high : b ≤ 57 = within.1 in
    grind (arith, nat_tests)

all_digits : (w : List ℕ) → AllDigits 10 w → list_all is_digit w ≡ true
all_digits [] h = refl
all_digits (b ∷ w) h = rw (digit_byte b (h.0, tt)) (all_digits w h.1)

literal_is : (w rest : List ℕ) → digits_value 10 w < 2 ^ 127 → Ends rest → Found (Lexeme kinds.Literal) (length w) ≡ literal_front (length w) (w ++ rest)
literal_is w rest small ends =
    let fits : nat_lt (digits_value 10 w) (2 ^ 127) ≡ true = grind (arith, nat_tests) in
    rw (take-append_seam w rest, drop-append_seam w rest, fits, makes_no_real rest ends) refl

literal_first : (w rest : List ℕ) → 0 < length w → list_all is_digit w ≡ true → digits_value 10 w < 2 ^ 127 → Ends rest →
    Some (Found (Lexeme kinds.Literal) (length w)) ≡ front_of (w ++ rest)
literal_first [] rest some all small ends = absurd (omega arith)
literal_first (b ∷ w) rest some all small ends =
    let digit : is_digit b ≡ true = (and_parts (is_digit b) (list_all is_digit w) all).0 in
    digit_first (b ∷ (w ++ rest)) b (w ++ rest) (Found (Lexeme kinds.Literal) (length (b ∷ w))) refl (no_blank is_digit b refl refl refl refl digit) digit
    (literal_is (b ∷ w) rest small ends ∙ ap (λ n. literal_front n (b ∷ (w ++ rest))) (run_all is_digit (b ∷ w) rest all (ends_digits rest ends)))

-- no digits stand in a table of texts of which none begins with a digit
no_row : (w : List ℕ) → begins_with is_digit w ≡ true → (rows : List (List ℕ × What)) → list_all (λ (row : List ℕ × What). not (begins_with is_digit row.0)) rows ≡ true → beside_text w rows ≡ None
no_row w digit [] none = refl
no_row w digit (row ∷ rows) none =
    let parts = and_parts (not (begins_with is_digit row.0)) (list_all (λ (row : List ℕ × What). not (begins_with is_digit row.0)) rows) none in
    let other : begins_with is_digit row.0 ≡ false = not-true (begins_with is_digit row.0) parts.0 in
    by_case (bytes_eq w row.0) refl other (no_row w digit rows parts.1)
  where
    by_case : (t : Bool) → bytes_eq w row.0 ≡ t → begins_with is_digit row.0 ≡ false → beside_text w rows ≡ None → (if t then Some row.1 else beside_text w rows) ≡ None
    by_case false is other more = more
    by_case true is other more = absurd (false≢true (sym other ∙ ap (begins_with is_digit) (sym ((bytes_eq-Decides w row.0).0 is)) ∙ digit))

no_part : (w : List ℕ) → 0 < length w → list_all is_digit w ≡ true → beside_text w left_out ≡ None
unfolding left_out
no_part [] some all = absurd (omega arith)
no_part (b ∷ w) some all = no_row (b ∷ w) (and_parts (is_digit b) (list_all is_digit w) all).0 left_out refl

digits_told : (w : List ℕ) (n : ℕ) → digits_value 10 w ≡ n → 0 < length w → list_all is_digit w ≡ true → digits_value 10 w < 2 ^ 127 → TellsEnded w (signs.Number (pos n) ∷ [])
digits_told w n value some all fits = record {
  go = λ rest more ends r. record {
    has = subst (λ k. HasTokens (w ++ rest) (signs.Number (pos k) ∷ more)) value (token_first kinds.Literal w rest more (literal_first w rest some all fits ends) (no_part w some all) r);
    plain = refl;
  };
}

pub literal : (n : ℕ) → n < 2 ^ 127 → TellsEnded (decimal n) (signs.Number (pos n) ∷ [])
literal n small =
    let wide : n < 10 ^ 64 = omega arith in
    let numeral = decimal_is_IsNumeral_wide n wide in
    let value : digits_value 10 (decimal n) ≡ n = numeral.1 in
    let fits : digits_value 10 (decimal n) < 2 ^ 127 = subst (λ k. k < 2 ^ 127) (sym value) small in
    digits_told (decimal n) n value numeral.0.0 (all_digits (decimal n) numeral.0.1) fits

-- the text of a number begins with a digit
pub decimal_digits : (n : ℕ) → n < 2 ^ 127 → begins_with is_digit (decimal n) ≡ true
decimal_digits n small =
    let wide : n < 10 ^ 64 = omega arith in
    let numeral = decimal_is_IsNumeral_wide n wide in
    first_digit (decimal n) numeral.0.0 (all_digits (decimal n) numeral.0.1)
  where
    first_digit : (w : List ℕ) → 0 < length w → list_all is_digit w ≡ true → begins_with is_digit w ≡ true
    first_digit [] some all = absurd (omega arith)
    first_digit (b ∷ w) some all = (and_parts (is_digit b) (list_all is_digit w) all).0

-- ---- marks

pub mark_read : (m rest : List ℕ) (more : List Sign) → Some (Found (Lexeme kinds.Mark) (length m)) ≡ front_of (m ++ rest) → beside_text m left_out ≡ None →
    is_colon (sign_of kinds.Mark m) ≡ false → IsRead rest more → IsRead (m ++ rest) (sign_of kinds.Mark m ∷ more)
mark_read m rest more is supports plain r = record { has = token_first kinds.Mark m rest more is supports r; plain = plain }

pub mark : (m : List ℕ) → ((rest : List ℕ) → Some (Found (Lexeme kinds.Mark) (length m)) ≡ front_of (m ++ rest)) → beside_text m left_out ≡ None →
    is_colon (sign_of kinds.Mark m) ≡ false → Tells m (sign_of kinds.Mark m ∷ [])
mark m is supports plain = record { go = λ rest more r. mark_read m rest more (is rest) supports plain r }

-- a mark and a space
pub mark_space : (m : List ℕ) → ((rest : List ℕ) → Some (Found (Lexeme kinds.Mark) (length m)) ≡ front_of (m ++ 32 ∷ rest)) → beside_text m left_out ≡ None →
    is_colon (sign_of kinds.Mark m) ≡ false → Tells (m ++ 32 ∷ []) (sign_of kinds.Mark m ∷ [])
mark_space m is supports plain = record {
  go = λ rest more r. rw (append_assoc m (32 ∷ []) rest) (mark_read m (32 ∷ rest) more (is rest) supports plain (blank_before 32 rest more refl r));
}

-- a name, a colon and a blank
pub name_colon : (w : List ℕ) (b : ℕ) → IsFreeWord w → is_blank b ≡ true → ((rest : List ℕ) → Some (Found (Lexeme kinds.Mark) 1) ≡ front_of (58 ∷ b ∷ rest)) →
    (rest : List ℕ) (more : List Sign) → IsRead rest more → IsRead (w ++ 58 ∷ b ∷ rest) (signs.Name w ∷ signs.Fixed fixed.Colon ∷ more)
unfolding left_out spellings
name_colon w b n space is rest more r = record {
  has =
      subst (λ x. HasTokens (w ++ 58 ∷ b ∷ rest) (x ∷ signs.Fixed fixed.Colon ∷ more)) n.free
      (token_before_colon kinds.Word w (58 ∷ b ∷ rest) (signs.Fixed fixed.Colon ∷ more) (word_front w (58 ∷ b ∷ rest) n.begins n.bytes refl) n.supported (λ here. refl)
      (token_first kinds.Mark (58 ∷ []) (b ∷ rest) more (is rest) refl (blank_before b rest more space r)));
  plain = refl;
}
