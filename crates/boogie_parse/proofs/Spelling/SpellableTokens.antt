-- The tokens of a text have signs that can be written.
use Rattle.std.proofs.Common.{◌≡◌, ℕ, zero, suc, ◌^◌, ◌<◌, Bool, true, false, ◌||◌, nat_eq, nat_lt, List, [], ◌∷◌, map, length, take, drop, Option, None, Some, is_some, Result, Ok, Err, codes, refl, ap, sym, ◌∙◌, subst, ltb-true}
use Rattle.std.specs.List.{AllByRecursion, find, list_all, starts_with}
use Rattle.std.specs.Str.Parse.{digits_value}
use Rattle.std.specs.Cmp.Lexicographic.{same_text}
use Rattle.std.proofs.lemmas.Bool.{and_parts, and_from, cond_both, not_from_false, false≢true}
use Rattle.boogie_tree.specs.declared.span.Span.{Span}
use Rattle.boogie_parse.specs.declared.token.TokenKind.{TokenKind}
use Rattle.boogie_parse.specs.declared.token.TokenKind.TheVariants as kinds
use Rattle.boogie_parse.specs.declared.lexer.token.Token.{Token}
use Rattle.boogie_parse.specs.declared.fault.Fault.{Fault}
use Rattle.boogie_parse.specs.declared.fault.What.{What}
use Rattle.boogie_parse.specs.declared.symbols.Fixed.{Fixed}
use Rattle.boogie_parse.specs.Lexing.Bytes.{is_blank}
use Rattle.boogie_tree.specs.Names.{is_digit, is_name_byte}
use Rattle.boogie_tree.specs.Places.{beginning}
use Rattle.boogie_parse.specs.Lexing.Tokens.{passing_length, marks, makes_real}
use Rattle.boogie_parse.specs.Lexing.Places.{behind_byte}
use Rattle.boogie_parse.specs.Lexing.Pieces.{Shape, Lexeme, Quoted, RealLiteral, LargeLiteral, Stray, Front, Skipped, Found, comment_length, string_length, is_in_line, literal_front, comment_front, string_front, mark_front, front, Piece, more_bytes, with_piece, pieces_from}
use Rattle.boogie_parse.specs.Lexing.Attributes.{begins_attribute, braced_length}
use Rattle.boogie_parse.specs.Lexing.Lexed.{left_out, beside_text, supported, judged, inside_attribute, attribute, found_in, with_token, tokens_or_fault, lexed}
use Rattle.boogie_parse.specs.Lexing.Symbols.{spellings, spelled, fixed_or_name, sign_of, symbol}
use Rattle.boogie_parse.specs.Spelling.PrintedTokens.{begins_word}
use Rattle.boogie_parse.proofs.Spelling.SpellableTrees.{IsSpellableSign, AreSpellableSymbols}

-- the text is in the table of fixed words and marks, or in that of what is left out
abbrev is_known : List ℕ → Bool
is_known w = is_some (spelled w spellings) || is_some (beside_text w left_out)

-- what the bytes of a piece are, by what it is
abbrev Fits : Shape → List ℕ → Type 0
Fits (Lexeme kinds.Word) w = (begins_word w ≡ true) × (list_all is_name_byte w ≡ true)
Fits (Lexeme kinds.Literal) w = digits_value 10 w < 2 ^ 127
Fits (Lexeme kinds.Mark) w = is_known w ≡ true
Fits Quoted w = Unit {0}
Fits RealLiteral w = Unit {0}
Fits LargeLiteral w = Unit {0}
Fits Stray w = Unit {0}

abbrev FrontFits : List ℕ → Front → Type 0
FrontFits text (Skipped n) = Unit {0}
FrontFits text (Found shape n) = Fits shape (take n text)

-- ---- what a text begins with

run_passes : (p : ℕ → Bool) (bs : List ℕ) → list_all p (take (passing_length p bs) bs) ≡ true
run_passes p [] = refl
run_passes p (b ∷ bs) =
    cond_both (p b) (suc (passing_length p bs)) 0 (λ n. list_all p (take n (b ∷ bs)) ≡ true) (λ passes. and_from (p b) (list_all p (take (passing_length p bs) bs)) passes (run_passes p bs)) (λ _. refl)

word_begins : (b : ℕ) (r : List ℕ) → is_digit b ≡ false → is_name_byte b ≡ true → begins_word (take (passing_length is_name_byte (b ∷ r)) (b ∷ r)) ≡ true
word_begins b r digit name =
    cond_both (is_name_byte b) (suc (passing_length is_name_byte r)) 0 (λ n. begins_word (take n (b ∷ r)) ≡ true) (λ _. not_from_false (is_digit b) digit)
    (λ other. absurd (false≢true (sym other ∙ name)))

literal_fits : (b : ℕ) (r : List ℕ) → FrontFits (b ∷ r) (literal_front (passing_length is_digit (b ∷ r)) (b ∷ r))
literal_fits b r =
    let P : Front → Type 0 = FrontFits (b ∷ r) in
    cond_both (nat_lt (digits_value 10 (take (passing_length is_digit (b ∷ r)) (b ∷ r))) (2 ^ 127)) _ _ P
    (λ small. cond_both (makes_real (drop (passing_length is_digit (b ∷ r)) (b ∷ r))) _ _ P (λ _. tt) (λ _. ltb-true (digits_value 10 (take (passing_length is_digit (b ∷ r)) (b ∷ r))) (2 ^ 127) small))
    (λ _. tt)

string_fits : (text : List ℕ) (n : ℕ) (o : Option ℕ) → FrontFits text (string_front n o)
string_fits text n None = tt
string_fits text n (Some m) = tt

comment_fits : (text : List ℕ) (n : ℕ) (o : Option ℕ) → FrontFits text (comment_front n o)
comment_fits text n None = tt
comment_fits text n (Some m) = tt

mark_fits : (text : List ℕ) (ms : List (List ℕ)) → list_all is_known ms ≡ true → FrontFits text (mark_front (find (λ m. starts_with nat_eq text m) ms))
mark_fits text [] known = tt
mark_fits text (m ∷ ms) known =
    let parts = and_parts (is_known m) (list_all is_known ms) known in
    cond_both (starts_with nat_eq text m) (Some m) (find (λ m. starts_with nat_eq text m) ms) (λ o. FrontFits text (mark_front o))
    (λ is. subst (λ w. is_known w ≡ true) (same_text m (take (length m) text) (sym is)) parts.0)
    (λ _. mark_fits text ms parts.1)

marks_known : list_all is_known marks ≡ true
unfolding left_out spellings
marks_known = refl

front_fits : (b : ℕ) (r : List ℕ) → FrontFits (b ∷ r) (front b r)
unfolding front
front_fits b r =
    let P : Front → Type 0 = FrontFits (b ∷ r) in
    cond_both (is_blank b) _ _ P (λ _. tt)
    (λ _. cond_both (is_digit b) _ _ P (λ _. literal_fits b r)
    (λ digit. cond_both (is_name_byte b) _ _ P (λ name. (word_begins b r digit name, run_passes is_name_byte (b ∷ r)))
    (λ _. cond_both (nat_eq b 34) _ _ P (λ _. string_fits (b ∷ r) (passing_length is_in_line r) (string_length 34 r))
    (λ _. cond_both (starts_with nat_eq (b ∷ r) (codes "//")) _ _ P (λ _. tt)
    (λ _. cond_both (starts_with nat_eq (b ∷ r) (codes "/*")) _ _ P (λ _. comment_fits (b ∷ r) (length (b ∷ r)) (comment_length 0 (drop 1 r)))
    (λ _. mark_fits (b ∷ r) marks marks_known))))))

-- ---- pieces

abbrev PiecesFit : List Piece → Type 0
PiecesFit ps = AllByRecursion (λ (p : Piece). Fits p.shape p.text) ps

with_front : (here : Span) (text : List ℕ) (f : Front) (ps : List Piece) → FrontFits text f → PiecesFit ps → PiecesFit (with_piece here text f ps)
with_front here text (Skipped n) ps h more = more
with_front here text (Found shape n) ps h more = (h, more)

pieces_fit : (pending : ℕ) (here : Span) (bs : List ℕ) → PiecesFit (pieces_from pending here bs)
unfolding pieces_from
pieces_fit pending here [] = tt
pieces_fit (suc pending) here (b ∷ r) = pieces_fit pending (behind_byte b here) r
pieces_fit zero here (b ∷ r) =
    with_front here (b ∷ r) (front b r) (pieces_from (more_bytes (front b r)) (behind_byte b here) r) (front_fits b r) (pieces_fit (more_bytes (front b r)) (behind_byte b here) r)

-- ---- tokens

word_spellable : (w : List ℕ) → begins_word w ≡ true → list_all is_name_byte w ≡ true → beside_text w left_out ≡ None → (o : Option Fixed) → spelled w spellings ≡ o → IsSpellableSign (fixed_or_name w o)
word_spellable w begins bytes supports (Some f) e = tt
word_spellable w begins bytes supports None e = record { begins = begins; bytes = bytes; free = ap (fixed_or_name w) e; supported = supports }

mark_spellable : (w : List ℕ) (o : Option Fixed) (q : Option What) → (is_some o || is_some q) ≡ true → q ≡ None → IsSpellableSign (fixed_or_name w o)
mark_spellable w (Some f) q known none = tt
mark_spellable w None None known none = absurd (false≢true known)
mark_spellable w None (Some x) known none = absurd (false≢true (ap is_some (sym none)))

sign_spellable : (kind : TokenKind) (w : List ℕ) → Fits (Lexeme kind) w → beside_text w left_out ≡ None → IsSpellableSign (sign_of kind w)
sign_spellable kinds.Word w h supports = word_spellable w h.0 h.1 supports (spelled w spellings) refl
sign_spellable kinds.Literal w h supports = h
sign_spellable kinds.Mark w h supports = mark_spellable w (spelled w spellings) (beside_text w left_out) h supports

abbrev AreSpellableTokens : List Token → Type 0
AreSpellableTokens ts = AllByRecursion (λ (t : Token). IsSpellableSign (symbol t).sign) ts

-- all tokens, if there is no fault
abbrev FoundSpellable : List (Result Token Fault) → Type 0
FoundSpellable found = (ts : List Token) → tokens_or_fault found ≡ Ok ts → AreSpellableTokens ts

ok_same : {ts us : List Token} → ◌≡◌ {A = Result (List Token) Fault} (Ok ts) (Ok us) → ts ≡ us
ok_same e = cc

no_tokens : {f : Fault} {ts : List Token} → ◌≡◌ {A = Result (List Token) Fault} (Err f) (Ok ts) → ⊥
no_tokens e = cc

token_found : (t : Token) (r : Result (List Token) Fault) (ts : List Token) → IsSpellableSign (symbol t).sign → ((us : List Token) → r ≡ Ok us → AreSpellableTokens us) → with_token t r ≡ Ok ts → AreSpellableTokens ts
token_found t (Err f) ts h more e = absurd (no_tokens e)
token_found t (Ok us) ts h more e = subst AreSpellableTokens (ok_same e) (h, more us refl)

supported_found : (here : Span) (kind : TokenKind) (w : List ℕ) (found : List (Result Token Fault)) → Fits (Lexeme kind) w → FoundSpellable found →
    (o : Option What) → beside_text w left_out ≡ o → FoundSpellable (supported here kind w o ∷ found)
supported_found here kind w found h more None e ts is =
    token_found (record { span = here; kind = kind; text = w }) (tokens_or_fault found) ts (sign_spellable kind w h e) more is
supported_found here kind w found h more (Some what) e ts is = absurd (no_tokens is)

judged_found : (here : Span) (w : List ℕ) (shape : Shape) (found : List (Result Token Fault)) → Fits shape w → FoundSpellable found → FoundSpellable (judged here w shape ∷ found)
judged_found here w (Lexeme kind) found h more ts is = supported_found here kind w found h more (beside_text w left_out) refl ts is
judged_found here w Quoted found h more ts is = absurd (no_tokens is)
judged_found here w RealLiteral found h more ts is = absurd (no_tokens is)
judged_found here w LargeLiteral found h more ts is = absurd (no_tokens is)
judged_found here w Stray found h more ts is = absurd (no_tokens is)

inside_found : (here : Span) (shape : Shape) (found : List (Result Token Fault)) → FoundSpellable found → FoundSpellable (inside_attribute here shape found)
inside_found here (Lexeme kind) found more ts is = more ts is
inside_found here Quoted found more ts is = more ts is
inside_found here RealLiteral found more ts is = more ts is
inside_found here LargeLiteral found more ts is = more ts is
inside_found here Stray found more ts is = absurd (no_tokens is)

attribute_found : (here : Span) (found : ℕ → List (Result Token Fault)) (o : Option ℕ) → ((n : ℕ) → FoundSpellable (found n)) → FoundSpellable (attribute here found o)
attribute_found here found None more ts is = absurd (no_tokens is)
attribute_found here found (Some n) more ts is = more n ts is

found_spellable : (n : ℕ) (ps : List Piece) → PiecesFit ps → FoundSpellable (found_in n ps)
unfolding found_in
found_spellable n [] h ts is = subst AreSpellableTokens (ok_same is) tt
found_spellable (suc n) (p ∷ ps) h ts is = inside_found p.span p.shape (found_in n ps) (found_spellable n ps h.1) ts is
found_spellable zero (p ∷ ps) h ts is =
    cond_both (begins_attribute p ps) _ _ FoundSpellable
    (λ _. attribute_found p.span (λ n. found_in n ps) (braced_length 0 ps) (λ n. found_spellable n ps h.1))
    (λ _. judged_found p.span p.text p.shape (found_in zero ps) h.0 (found_spellable zero ps h.1)) ts is

symbols_spellable : (ts : List Token) → AreSpellableTokens ts → AreSpellableSymbols (map symbol ts)
symbols_spellable [] h = tt
symbols_spellable (t ∷ ts) h = (h.0, symbols_spellable ts h.1)

-- the symbols of a text
pub lexed_spellable : (text : List ℕ) (ts : List Token) → lexed text ≡ Ok ts → AreSpellableSymbols (map symbol ts)
lexed_spellable text ts is = symbols_spellable ts (found_spellable 0 (pieces_from 0 beginning text) (pieces_fit 0 beginning text) ts is)
