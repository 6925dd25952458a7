-- What the code of the lexer does in one turn, as the definitions of pieces, attributes and tokens see it.
use Rattle.std.specs.Prelude.{ℕ, zero, suc, ◌+◌, nat_eq, List, [], ◌∷◌, ◌++◌, take, Option, None, Some, Result, Ok, Err, if◌then◌else◌}
use Rattle.std.specs.List.{find, starts_with}
use Rattle.boogie_tree.specs.declared.span.Span.{Span}
use Rattle.boogie_parse.specs.declared.fault.Fault.{Fault}
use Rattle.boogie_parse.specs.declared.lexer.token.Token.{Token}
use Rattle.boogie_parse.specs.Lexing.Tokens.{marks}
use Rattle.boogie_parse.specs.Lexing.Pieces.{Shape, Lexeme, Quoted, RealLiteral, LargeLiteral, Stray, Front, Skipped, Found, front, mark_front, Piece, opens_comment, closes_comment}
use Rattle.boogie_parse.specs.Lexing.Attributes.{opens_brace, closes_brace, braced_length}
use Rattle.boogie_parse.specs.Lexing.Lexed.{judged, syntax_at}

-- how many bytes what was found has
abbrev pub length_of : Front → ℕ
length_of (Skipped n) = n
length_of (Found shape n) = n

-- what a text that has bytes begins with
abbrev pub front_of : List ℕ → Option Front
front_of [] = None
front_of (b ∷ r) = Some (front b r)

-- the longest mark that a text begins with
abbrev pub first_mark : List ℕ → Front
first_mark bs = mark_front (find (λ m. starts_with nat_eq bs m) marks)

-- a number less one; none below 0
abbrev pub one_less : ℕ → Option ℕ
one_less zero = None
one_less (suc n) = Some n

abbrev pub with_length : ℕ → Option ℕ → Option (ℕ × ℕ)
with_length n None = None
with_length n (Some m) = Some (m, n)

-- what two bytes do to a comment with `inner` more open inside it: how many are open behind, and how many of the bytes that takes; none where they close it
abbrev pub comment_turn : ℕ → ℕ → ℕ → Option (ℕ × ℕ)
comment_turn inner a b =
    if opens_comment a b then Some (inner + 1, 2)
    else (if closes_comment a b then with_length 2 (one_less inner) else Some (inner, 1))

-- how many braces are open behind a piece, with `inner` more open inside the attribute before it; none where the piece closes the attribute
abbrev pub open_behind : ℕ → Piece → Option ℕ
open_behind inner p = if opens_brace p then Some (inner + 1) else (if closes_brace p then one_less inner else Some inner)

abbrev pub stray_or : Span → Shape → Option Span → Option Span
stray_or here (Lexeme kind) more = more
stray_or here Quoted more = more
stray_or here RealLiteral more = more
stray_or here LargeLiteral more = more
stray_or here Stray more = Some here

-- the place of the first piece that may not stand inside an attribute
abbrev pub first_stray : List Piece → Option Span
first_stray [] = None
first_stray (p ∷ ps) = stray_or p.span p.shape (first_stray ps)

abbrev pub unless_stray : ℕ → Option Span → Result ℕ Fault
unless_stray n None = Ok n
unless_stray n (Some stray) = Err (syntax_at stray)

abbrev pub closed_attribute : Span → List Piece → Option ℕ → Result ℕ Fault
closed_attribute here ps None = Err (syntax_at here)
closed_attribute here ps (Some n) = unless_stray n (first_stray (take n ps))

-- how many pieces stand behind the brace that opens an attribute here, up to its end; else its first fault
abbrev pub attribute_length : Span → List Piece → Result ℕ Fault
attribute_length here ps = closed_attribute here ps (braced_length 0 ps)

-- what a piece outside attributes is
abbrev pub judgement : Piece → Result Token Fault
judgement p = judged p.span p.text p.shape

-- tokens before those of what follows, if that has no fault
abbrev pub with_tokens : List Token → Result (List Token) Fault → Result (List Token) Fault
with_tokens ts (Ok us) = Ok (ts ++ us)
with_tokens ts (Err f) = Err f
