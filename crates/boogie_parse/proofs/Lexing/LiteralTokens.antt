-- The literals among the tokens of a text fit.
use Rattle.std.proofs.Common.{◌≡◌, ℕ, zero, suc, ◌^◌, nat_eq, nat_lt, List, [], ◌∷◌, length, take, drop, Option, None, Some, Result, Ok, Err, codes, subst, ltb-true}
use Rattle.std.specs.List.{AllByRecursion, find, starts_with}
use Rattle.std.specs.Str.Parse.{digits_value}
use Rattle.std.proofs.lemmas.Bool.{cond_both}
use Rattle.boogie_tree.specs.declared.span.Span.{Span}
use Rattle.boogie_parse.specs.declared.token.TokenKind.{TokenKind}
use Rattle.boogie_parse.specs.declared.fault.Fault.{Fault}
use Rattle.boogie_parse.specs.declared.fault.What.{What}
use Rattle.boogie_parse.specs.declared.lexer.token.Token.{Token}
use Rattle.boogie_parse.specs.Lexing.Bytes.{is_blank}
use Rattle.boogie_tree.specs.Names.{is_digit, is_name_byte}
use Rattle.boogie_tree.specs.Places.{beginning}
use Rattle.boogie_parse.specs.Lexing.Tokens.{passing_length, marks, makes_real}
use Rattle.boogie_parse.specs.Lexing.Places.{behind_byte}
use Rattle.boogie_parse.specs.Lexing.Pieces.{Shape, Lexeme, Quoted, RealLiteral, LargeLiteral, Stray, Front, Skipped, Found, is_in_line, comment_length, string_length, literal_front, comment_front, string_front, mark_front, front, Piece, more_bytes, with_piece, pieces_from, pieces}
use Rattle.boogie_parse.specs.Lexing.Attributes.{begins_attribute, braced_length}
use Rattle.boogie_parse.specs.Lexing.Lexed.{left_out, beside_text, supported, judged, inside_attribute, attribute, found_in, with_token, tokens_or_fault, lexed}
use Rattle.boogie_parse.specs.Lexing.Symbols.{fits_as, LiteralFits}

-- ---- what a text begins with

-- a piece of that shape is no literal that is too large
abbrev ShapeFits : Shape → List ℕ → Type 0
ShapeFits (Lexeme kind) text = fits_as kind text
ShapeFits Quoted text = Unit {0}
ShapeFits RealLiteral text = Unit {0}
ShapeFits LargeLiteral text = Unit {0}
ShapeFits Stray text = Unit {0}

abbrev FrontFits : List ℕ → Front → Type 0
FrontFits bs (Skipped n) = Unit {0}
FrontFits bs (Found shape n) = ShapeFits shape (take n bs)

literal_fits : (n : ℕ) (bs : List ℕ) → FrontFits bs (literal_front n bs)
literal_fits n bs =
    let P : Front → Type 0 = FrontFits bs in
    cond_both (nat_lt (digits_value 10 (take n bs)) (2 ^ 127)) _ _ P
    (λ less. cond_both (makes_real (drop n bs)) _ _ P (λ _. tt) (λ _. ltb-true (digits_value 10 (take n bs)) (2 ^ 127) less))
    (λ _. tt)

string_fits : (n : ℕ) (bs : List ℕ) (o : Option ℕ) → FrontFits bs (string_front n o)
string_fits n bs None = tt
string_fits n bs (Some m) = tt

comment_fits : (n : ℕ) (bs : List ℕ) (o : Option ℕ) → FrontFits bs (comment_front n o)
comment_fits n bs None = tt
comment_fits n bs (Some m) = tt

mark_fits : (bs : List ℕ) (o : Option (List ℕ)) → FrontFits bs (mark_front o)
mark_fits bs None = tt
mark_fits bs (Some m) = tt

front_fits : (b : ℕ) (r : List ℕ) → FrontFits (b ∷ r) (front b r)
unfolding front
front_fits b r =
    let P : Front → Type 0 = FrontFits (b ∷ r) in
    cond_both (is_blank b) _ _ P (λ _. tt)
    (λ _. cond_both (is_digit b) _ _ P (λ _. literal_fits (passing_length is_digit (b ∷ r)) (b ∷ r))
    (λ _. cond_both (is_name_byte b) _ _ P (λ _. tt)
    (λ _. cond_both (nat_eq b 34) _ _ P (λ _. string_fits (passing_length is_in_line r) (b ∷ r) (string_length 34 r))
    (λ _. cond_both (starts_with nat_eq (b ∷ r) (codes "//")) _ _ P (λ _. tt)
    (λ _. cond_both (starts_with nat_eq (b ∷ r) (codes "/*")) _ _ P (λ _. comment_fits (length (b ∷ r)) (b ∷ r) (comment_length 0 (drop 1 r)))
    (λ _. mark_fits (b ∷ r) (find (λ m. starts_with nat_eq (b ∷ r) m) marks)))))))

-- ---- pieces

abbrev PieceFits : Piece → Type 0
PieceFits p = ShapeFits p.shape p.text

with_piece_fits : (here : Span) (bs : List ℕ) (f : Front) (ps : List Piece) → FrontFits bs f → AllByRecursion PieceFits ps → AllByRecursion PieceFits (with_piece here bs f ps)
with_piece_fits here bs (Skipped n) ps fits all = all
with_piece_fits here bs (Found shape n) ps fits all = (fits, all)

pieces_fit : (pending : ℕ) (here : Span) (bs : List ℕ) → AllByRecursion PieceFits (pieces_from pending here bs)
unfolding pieces_from
pieces_fit pending here [] = tt
pieces_fit zero here (b ∷ r) = with_piece_fits here (b ∷ r) (front b r) _ (front_fits b r) (pieces_fit (more_bytes (front b r)) (behind_byte b here) r)
pieces_fit (suc pending) here (b ∷ r) = pieces_fit pending (behind_byte b here) r

-- ---- tokens

-- a token is no literal that is too large; a fault is none
abbrev TokenFits : Result Token Fault → Type 0
TokenFits (Ok t) = LiteralFits t
TokenFits (Err f) = Unit {0}

supported_fits : (here : Span) (kind : TokenKind) (text : List ℕ) (o : Option What) → fits_as kind text → TokenFits (supported here kind text o)
supported_fits here kind text None fits = fits
supported_fits here kind text (Some what) fits = tt

judged_fits : (here : Span) (text : List ℕ) (shape : Shape) → ShapeFits shape text → TokenFits (judged here text shape)
judged_fits here text (Lexeme kind) fits = supported_fits here kind text (beside_text text left_out) fits
judged_fits here text Quoted fits = tt
judged_fits here text RealLiteral fits = tt
judged_fits here text LargeLiteral fits = tt
judged_fits here text Stray fits = tt

inside_fits : (here : Span) (shape : Shape) (found : List (Result Token Fault)) → AllByRecursion TokenFits found → AllByRecursion TokenFits (inside_attribute here shape found)
inside_fits here (Lexeme kind) found all = all
inside_fits here Quoted found all = all
inside_fits here RealLiteral found all = all
inside_fits here LargeLiteral found all = all
inside_fits here Stray found all = (tt, all)

attribute_fits : (here : Span) (ps : List Piece) (o : Option ℕ) → ((n : ℕ) → AllByRecursion TokenFits (found_in n ps)) → AllByRecursion TokenFits (attribute here (λ n. found_in n ps) o)
attribute_fits here ps None all = (tt, tt)
attribute_fits here ps (Some n) all = all n

found_fits : (n : ℕ) (ps : List Piece) → AllByRecursion PieceFits ps → AllByRecursion TokenFits (found_in n ps)
unfolding found_in
found_fits n [] fit = tt
found_fits (suc n) (p ∷ ps) fit = inside_fits p.span p.shape (found_in n ps) (found_fits n ps fit.1)
found_fits zero (p ∷ ps) fit =
    cond_both (begins_attribute p ps) _ _ (AllByRecursion TokenFits)
    (λ _. attribute_fits p.span ps (braced_length 0 ps) (λ n. found_fits n ps fit.1))
    (λ _. (judged_fits p.span p.text p.shape fit.0, found_fits zero ps fit.1))

-- the tokens, if there is no fault, are no literals that are too large
abbrev AllFit : Result (List Token) Fault → Type 0
AllFit (Ok ts) = AllByRecursion LiteralFits ts
AllFit (Err f) = Unit {0}

with_token_fits : (t : Token) (r : Result (List Token) Fault) → LiteralFits t → AllFit r → AllFit (with_token t r)
with_token_fits t (Ok ts) fits all = (fits, all)
with_token_fits t (Err f) fits all = tt

tokens_fit : (found : List (Result Token Fault)) → AllByRecursion TokenFits found → AllFit (tokens_or_fault found)
tokens_fit [] fit = tt
tokens_fit (Ok t ∷ found) fit = with_token_fits t (tokens_or_fault found) fit.0 (tokens_fit found fit.1)
tokens_fit (Err f ∷ found) fit = tt

pub lexed_literals : (text : List ℕ) (ts : List Token) → lexed text ≡ Ok ts → AllByRecursion LiteralFits ts
lexed_literals text ts is = subst AllFit is (tokens_fit (found_in 0 (pieces text)) (found_fits 0 (pieces text) (pieces_fit 0 beginning text)))
