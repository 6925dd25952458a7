-- The tokens of a text outside attributes, or its first fault.
use Rattle.std.specs.Prelude.{ℕ, zero, suc, List, [], ◌∷◌, Option, None, Some, Result, Ok, Err, codes, if◌then◌else◌}
use Rattle.std.specs.Str.{bytes_eq}
use Rattle.boogie_tree.specs.declared.span.Span.{Span}
use Rattle.boogie_parse.specs.declared.token.TokenKind.{TokenKind}
use Rattle.boogie_parse.specs.declared.lexer.token.Token.{Token}
use Rattle.boogie_parse.specs.declared.fault.Fault.{Fault}
use Rattle.boogie_parse.specs.declared.fault.Fault.TheVariants as faults
use Rattle.boogie_parse.specs.declared.fault.Which.TheVariants as limits
use Rattle.boogie_parse.specs.declared.fault.What.{What}
use Rattle.boogie_parse.specs.declared.fault.What.TheVariants as parts
use Rattle.boogie_parse.specs.Lexing.Pieces.{Shape, Lexeme, Quoted, RealLiteral, LargeLiteral, Stray, Piece, pieces}
use Rattle.boogie_parse.specs.Lexing.Attributes.{begins_attribute, braced_length}

-- the tokens of parts of Boogie that are left out
unfoldable pub left_out : List (List ℕ × What)
left_out =
    (codes "[", parts.Map) ∷ (codes "]", parts.Map)
    ∷ (codes "forall", parts.Quantifier) ∷ (codes "exists", parts.Quantifier) ∷ (codes "lambda", parts.Quantifier) ∷ (codes "::", parts.Quantifier)
    ∷ (codes "type", parts.Declaration) ∷ (codes "function", parts.Declaration) ∷ (codes "where", parts.Declaration) ∷ (codes "unique", parts.Declaration)
    ∷ (codes "<==", parts.Operator) ∷ (codes "<:", parts.Operator) ∷ (codes "++", parts.Operator)
    ∷ (codes "/", parts.Operator) ∷ (codes "%", parts.Operator) ∷ (codes "**", parts.Operator)
    ∷ (codes "then", parts.Conditional)
    ∷ (codes "async", parts.Concurrency) ∷ (codes "yield", parts.Concurrency) ∷ (codes "par", parts.Concurrency)
    ∷ (codes "real", parts.Real) ∷ []

-- what stands in the table beside a text
abbrev pub beside_text : List ℕ → List (List ℕ × What) → Option What
beside_text text [] = None
beside_text text (row ∷ rows) = if bytes_eq text row.0 then Some row.1 else beside_text text rows

abbrev pub syntax_at : Span → Fault
syntax_at here = faults.Syntax here.line here.col

-- a token, unless its text belongs to a part that is left out
abbrev pub supported : Span → TokenKind → List ℕ → Option What → Result Token Fault
supported here kind text None = Ok (record { span = here; kind = kind; text = text })
supported here kind text (Some what) = Err (faults.Unsupported what here.line here.col)

-- what a piece outside attributes is: a token or a fault
abbrev pub judged : Span → List ℕ → Shape → Result Token Fault
judged here text (Lexeme kind) = supported here kind text (beside_text text left_out)
judged here text Quoted = Err (syntax_at here)
judged here text RealLiteral = Err (faults.Unsupported parts.Real here.line here.col)
judged here text LargeLiteral = Err (faults.Limit limits.Literal here.line here.col)
judged here text Stray = Err (syntax_at here)

-- inside an attribute only what is no piece of a text at all is a fault
abbrev pub inside_attribute : Span → Shape → List (Result Token Fault) → List (Result Token Fault)
inside_attribute here (Lexeme kind) found = found
inside_attribute here Quoted found = found
inside_attribute here RealLiteral found = found
inside_attribute here LargeLiteral found = found
inside_attribute here Stray found = Err (syntax_at here) ∷ found

-- an attribute that stays open is a fault where it opens; one that is closed after n pieces is left out
abbrev pub attribute : Span → (ℕ → List (Result Token Fault)) → Option ℕ → List (Result Token Fault)
attribute here found None = Err (syntax_at here) ∷ []
attribute here found (Some n) = found n

-- the tokens and faults of these pieces in order, where the first `pending` pieces stand inside an attribute
unfoldable pub found_in : ℕ → List Piece → List (Result Token Fault)
found_in pending [] = []
found_in (suc pending) (p ∷ ps) = inside_attribute p.span p.shape (found_in pending ps)
found_in zero (p ∷ ps) =
    if begins_attribute p ps then attribute p.span (λ n. found_in n ps) (braced_length 0 ps)
    else judged p.span p.text p.shape ∷ found_in zero ps

abbrev pub with_token : Token → Result (List Token) Fault → Result (List Token) Fault
with_token t (Ok ts) = Ok (t ∷ ts)
with_token t (Err f) = Err f

-- the first fault, or all tokens
abbrev pub tokens_or_fault : List (Result Token Fault) → Result (List Token) Fault
tokens_or_fault [] = Ok []
tokens_or_fault (Ok t ∷ found) = with_token t (tokens_or_fault found)
tokens_or_fault (Err f ∷ found) = Err f

-- the tokens of a text, or its first fault
abbrev pub lexed : List ℕ → Result (List Token) Fault
lexed text = tokens_or_fault (found_in 0 (pieces text))
