-- Tokens and the first fault of pieces, one after another.
use Rattle.std.proofs.Common.{◌≡◌, ℕ, zero, suc, true, false, List, [], ◌∷◌, ◌++◌, take, drop, Option, None, Some, Result, Ok, Err, if◌then◌else◌, refl, ap, ◌∙◌, append_assoc}
use Rattle.boogie_tree.specs.declared.span.Span.{Span}
use Rattle.boogie_parse.specs.declared.fault.Fault.{Fault}
use Rattle.boogie_parse.specs.declared.lexer.token.Token.{Token}
use Rattle.boogie_parse.specs.Lexing.Pieces.{Shape, Lexeme, Quoted, RealLiteral, LargeLiteral, Stray, Piece}
use Rattle.boogie_parse.specs.Lexing.Attributes.{begins_attribute, braced_length}
use Rattle.boogie_parse.specs.Lexing.Lexed.{syntax_at, inside_attribute, attribute, found_in, with_token, tokens_or_fault}
use Rattle.boogie_parse.specs.Ties.Turns.{stray_or, first_stray, unless_stray, closed_attribute, attribute_length, judgement, with_tokens}

abbrev pub read : List Piece → Result (List Token) Fault
read ps = tokens_or_fault (found_in 0 ps)

-- ---- inside an attribute

-- the fault of the first stray, if there is one; else what stands behind
abbrev stray_before : Option Span → Result (List Token) Fault → Result (List Token) Fault
stray_before None r = r
stray_before (Some stray) r = Err (syntax_at stray)

inside : (n : ℕ) (ps : List Piece) → tokens_or_fault (found_in n ps) ≡ stray_before (first_stray (take n ps)) (read (drop n ps))
unfolding found_in
inside zero ps = refl
inside (suc n) [] = refl
inside (suc n) (p ∷ ps) = at_shape p.span p.shape (found_in n ps) (first_stray (take n ps)) (read (drop n ps)) (inside n ps)
  where
    at_shape : (here : Span) (shape : Shape) (found : List (Result Token Fault)) (more : Option Span) (r : Result (List Token) Fault) →
        tokens_or_fault found ≡ stray_before more r → tokens_or_fault (inside_attribute here shape found) ≡ stray_before (stray_or here shape more) r
    at_shape here (Lexeme kind) found more r h = h
    at_shape here Quoted found more r h = h
    at_shape here RealLiteral found more r h = h
    at_shape here LargeLiteral found more r h = h
    at_shape here Stray found more r h = refl

-- what an attribute leaves: what stands behind it, or its fault
abbrev pub behind_attribute : List Piece → Result ℕ Fault → Result (List Token) Fault
behind_attribute ps (Ok n) = read (drop n ps)
behind_attribute ps (Err f) = Err f

read-attribute : (here : Span) (ps : List Piece) (o : Option ℕ) → tokens_or_fault (attribute here (λ n. found_in n ps) o) ≡ behind_attribute ps (closed_attribute here ps o)
read-attribute here ps None = refl
read-attribute here ps (Some n) = inside n ps ∙ by_stray n ps (first_stray (take n ps))
  where
    by_stray : (n : ℕ) (ps : List Piece) (o : Option Span) → stray_before o (read (drop n ps)) ≡ behind_attribute ps (unless_stray n o)
    by_stray n ps None = refl
    by_stray n ps (Some stray) = refl

-- ---- one turn

pub read_attribute : (p : Piece) (ps : List Piece) → begins_attribute p ps ≡ true → read (p ∷ ps) ≡ behind_attribute ps (attribute_length p.span ps)
unfolding found_in
read_attribute p ps begins =
    ap (λ t. tokens_or_fault (if t then attribute p.span (λ n. found_in n ps) (braced_length 0 ps) else judgement p ∷ found_in zero ps)) begins
    ∙ read-attribute p.span ps (braced_length 0 ps)

-- what a piece outside attributes leaves
abbrev pub behind_piece : Result Token Fault → Result (List Token) Fault → Result (List Token) Fault
behind_piece (Ok t) r = with_token t r
behind_piece (Err f) r = Err f

pub read_piece : (p : Piece) (ps : List Piece) → begins_attribute p ps ≡ false → read (p ∷ ps) ≡ behind_piece (judgement p) (read ps)
unfolding found_in
read_piece p ps begins =
    ap (λ t. tokens_or_fault (if t then attribute p.span (λ n. found_in n ps) (braced_length 0 ps) else judgement p ∷ found_in zero ps)) begins
    ∙ by_judgement (judgement p) (found_in zero ps)
  where
    by_judgement : (j : Result Token Fault) (found : List (Result Token Fault)) → tokens_or_fault (j ∷ found) ≡ behind_piece j (tokens_or_fault found)
    by_judgement (Ok t) found = refl
    by_judgement (Err f) found = refl

pub with_no_tokens : (r : Result (List Token) Fault) → with_tokens [] r ≡ r
with_no_tokens (Ok ts) = refl
with_no_tokens (Err f) = refl

pub with_one_token : (ts : List Token) (t : Token) (r : Result (List Token) Fault) → with_tokens (ts ++ t ∷ []) r ≡ with_tokens ts (with_token t r)
with_one_token ts t (Ok us) = ap (λ (all : List Token). Ok all) (append_assoc ts (t ∷ []) us)
with_one_token ts t (Err f) = refl
