-- Attributes: `{` directly followed by `:`, up to the `}` that balances it.
use Rattle.std.specs.Prelude.{ℕ, zero, suc, Bool, true, false, ◌&&◌, List, [], ◌∷◌, Option, None, Some, codes, if◌then◌else◌}
use Rattle.std.specs.Str.{bytes_eq}
use Rattle.boogie_parse.specs.declared.token.TokenKind.TheVariants as kinds
use Rattle.boogie_parse.specs.Lexing.Pieces.{Shape, Lexeme, Piece, longer}

abbrev pub is_mark_shape : Shape → Bool
is_mark_shape (Lexeme kinds.Mark) = true
is_mark_shape shape = false

-- the piece is the mark with these bytes
abbrev pub is_mark : List ℕ → Piece → Bool
is_mark mark p = is_mark_shape p.shape && bytes_eq p.text mark

abbrev pub opens_brace : Piece → Bool
opens_brace p = is_mark (codes "{") p

abbrev pub closes_brace : Piece → Bool
closes_brace p = is_mark (codes "}") p

-- an attribute begins with this piece, before these
abbrev pub begins_attribute : Piece → List Piece → Bool
begins_attribute p [] = false
begins_attribute p (q ∷ ps) = opens_brace p && is_mark (codes ":") q

-- How many pieces stand behind an open brace, with `inner` more open inside it, up to the `}` that balances it; none where it stays open.
abbrev pub braced_length : ℕ → List Piece → Option ℕ
braced_length inner [] = None
braced_length zero (p ∷ ps) =
    if opens_brace p then longer 1 (braced_length 1 ps)
    else (if closes_brace p then Some 1 else longer 1 (braced_length zero ps))
braced_length (suc inner) (p ∷ ps) =
    if opens_brace p then longer 1 (braced_length (suc (suc inner)) ps)
    else (if closes_brace p then longer 1 (braced_length inner ps) else longer 1 (braced_length (suc inner) ps))
