-- The pieces of a text: its tokens, and what stands in their place where there is none, each the longest at its place.
use Rattle.std.specs.Prelude.{ℕ, zero, suc, ◌+◌, ◌-◌, ◌^◌, Bool, ◌&&◌, ◌==◌, not, nat_eq, nat_lt, List, [], ◌∷◌, length, take, drop, Option, None, Some, codes, if◌then◌else◌}
use Rattle.std.specs.List.{find, starts_with}
use Rattle.std.specs.Str.Parse.{digits_value}
use Rattle.boogie_tree.specs.declared.span.Span.{Span}
use Rattle.boogie_parse.specs.declared.token.TokenKind.{TokenKind}
use Rattle.boogie_parse.specs.declared.token.TokenKind.TheVariants as kinds
use Rattle.boogie_parse.specs.Lexing.Bytes.{is_blank}
use Rattle.boogie_tree.specs.Names.{is_digit, is_name_byte}
use Rattle.boogie_tree.specs.Places.{beginning}
use Rattle.boogie_parse.specs.Lexing.Tokens.{passing_length, marks, makes_real}
use Rattle.boogie_parse.specs.Lexing.Places.{behind_byte}

-- what a piece is
pub data Shape : Type 0 where
  Lexeme : TokenKind → Shape  -- a token
  Quoted : Shape  -- a string
  RealLiteral : Shape  -- digits, and directly behind them a letter, an underscore, or a point and a digit
  LargeLiteral : Shape  -- digits that count more than 2^127-1
  Stray : Shape  -- no token begins so, or a comment or a string stays open

-- what a text begins with, and how many bytes that has
pub data Front : Type 0 where
  Skipped : ℕ → Front  -- a blank or a comment
  Found : Shape → ℕ → Front

-- a length, some bytes more
abbrev pub longer : ℕ → Option ℕ → Option ℕ
longer n None = None
longer n (Some m) = Some (n + m)

abbrev pub opens_comment : ℕ → ℕ → Bool
opens_comment a b = a == 47 && b == 42

abbrev pub closes_comment : ℕ → ℕ → Bool
closes_comment a b = a == 42 && b == 47

-- How many bytes stand in a comment that is open, with `inner` more open inside it, up to the end of the `*/` that closes it; none where it stays open.
abbrev pub comment_length : ℕ → List ℕ → Option ℕ
comment_length inner [] = None
comment_length inner (a ∷ []) = None
comment_length zero (a ∷ b ∷ r) =
    if opens_comment a b then longer 2 (comment_length 1 r)
    else (if closes_comment a b then Some 2 else longer 1 (comment_length zero (b ∷ r)))
comment_length (suc inner) (a ∷ b ∷ r) =
    if opens_comment a b then longer 2 (comment_length (suc (suc inner)) r)
    else (if closes_comment a b then longer 2 (comment_length inner r) else longer 1 (comment_length (suc inner) (b ∷ r)))

-- How many bytes stand in a string that is open, up to its closing `"`, on the line, which follows no backslash; none where it stays open.
abbrev pub string_length : ℕ → List ℕ → Option ℕ
string_length before [] = None
string_length before (b ∷ r) =
    if b == 10 then None
    else (if b == 34 && not (before == 92) then Some 1 else longer 1 (string_length b r))

abbrev pub is_in_line : ℕ → Bool
is_in_line b = not (b == 10)

-- A literal that is too large is no real, whatever stands behind it.
abbrev pub literal_front : ℕ → List ℕ → Front
literal_front n bs =
    if nat_lt (digits_value 10 (take n bs)) (2 ^ 127)
    then (if makes_real (drop n bs) then Found RealLiteral n else Found (Lexeme kinds.Literal) n)
    else Found LargeLiteral n

-- An open comment takes the rest of the text.
abbrev pub comment_front : ℕ → Option ℕ → Front
comment_front whole None = Found Stray whole
comment_front whole (Some n) = Skipped (2 + n)

-- An open string takes the rest of its line.
abbrev pub string_front : ℕ → Option ℕ → Front
string_front rest_of_line None = Found Stray (1 + rest_of_line)
string_front rest_of_line (Some n) = Found Quoted (1 + n)

abbrev pub mark_front : Option (List ℕ) → Front
mark_front None = Found Stray 1
mark_front (Some m) = Found (Lexeme kinds.Mark) (length m)

-- what the text with this first byte and these bytes behind it begins with
unfoldable pub front : ℕ → List ℕ → Front
front b r =
    if is_blank b then Skipped 1
    else (if is_digit b then literal_front (passing_length is_digit (b ∷ r)) (b ∷ r)
    else (if is_name_byte b then Found (Lexeme kinds.Word) (passing_length is_name_byte (b ∷ r))
    else (if b == 34 then string_front (passing_length is_in_line r) (string_length 34 r)
    else (if starts_with nat_eq (b ∷ r) (codes "//") then Skipped (passing_length is_in_line (b ∷ r))
    else (if starts_with nat_eq (b ∷ r) (codes "/*") then comment_front (length (b ∷ r)) (comment_length 0 (drop 1 r))
    else mark_front (find (λ m. starts_with nat_eq (b ∷ r) m) marks))))))

-- a piece: where it stands, what it is, and its bytes
pub record Piece : Type 0 where
  pub span : Span
  pub shape : Shape
  pub text : List ℕ

-- how many bytes what was found has behind its first
abbrev pub more_bytes : Front → ℕ
more_bytes (Skipped n) = n - 1
more_bytes (Found shape n) = n - 1

abbrev pub with_piece : Span → List ℕ → Front → List Piece → List Piece
with_piece here bs (Skipped n) ps = ps
with_piece here bs (Found shape n) ps = (record { span = here; shape = shape; text = take n bs }) ∷ ps

-- the pieces from a place on, where the first `pending` bytes belong to what stands before
unfoldable pub pieces_from : ℕ → Span → List ℕ → List Piece
pieces_from pending here [] = []
pieces_from (suc pending) here (b ∷ r) = pieces_from pending (behind_byte b here) r
pieces_from zero here (b ∷ r) = with_piece here (b ∷ r) (front b r) (pieces_from (more_bytes (front b r)) (behind_byte b here) r)

-- the pieces of a text, in order
abbrev pub pieces : List ℕ → List Piece
pieces text = pieces_from 0 beginning text
