-- Tokens as the grammar sees them: fixed words and marks, numbers and names.
use Rattle.std.specs.Prelude.{ℕ, pos, ◌<◌, ◌^◌, List, [], ◌∷◌, Option, None, Some, codes, if◌then◌else◌}
use Rattle.std.specs.Str.{bytes_eq}
use Rattle.std.specs.Str.Parse.{digits_value}
use Rattle.boogie_parse.specs.declared.token.TokenKind.{TokenKind}
use Rattle.boogie_parse.specs.declared.token.TokenKind.TheVariants as kinds
use Rattle.boogie_parse.specs.declared.lexer.token.Token.{Token}
use Rattle.boogie_parse.specs.declared.symbols.Fixed.{Fixed}
use Rattle.boogie_parse.specs.declared.symbols.Fixed.TheVariants as fixed
use Rattle.boogie_parse.specs.declared.symbols.Sign.{Sign}
use Rattle.boogie_parse.specs.declared.symbols.Sign.TheVariants as signs
use Rattle.boogie_parse.specs.declared.symbols.Symbol.{Symbol}

-- the spellings of the fixed words and marks
unfoldable pub spellings : List (List ℕ × Fixed)
spellings =
    (codes "const", fixed.Const) ∷ (codes "var", fixed.Var) ∷ (codes "axiom", fixed.Axiom) ∷ (codes "procedure", fixed.Procedure)
    ∷ (codes "implementation", fixed.Implementation) ∷ (codes "returns", fixed.Returns) ∷ (codes "requires", fixed.Requires)
    ∷ (codes "ensures", fixed.Ensures) ∷ (codes "modifies", fixed.Modifies) ∷ (codes "free", fixed.Free) ∷ (codes "invariant", fixed.Invariant)
    ∷ (codes "assert", fixed.Assert) ∷ (codes "assume", fixed.Assume) ∷ (codes "havoc", fixed.Havoc) ∷ (codes "call", fixed.Call)
    ∷ (codes "if", fixed.If) ∷ (codes "else", fixed.Else) ∷ (codes "while", fixed.While) ∷ (codes "break", fixed.Break) ∷ (codes "goto", fixed.Goto)
    ∷ (codes "return", fixed.Return) ∷ (codes "true", fixed.True) ∷ (codes "false", fixed.False) ∷ (codes "old", fixed.Old)
    ∷ (codes "int", fixed.Int) ∷ (codes "bool", fixed.Bool) ∷ (codes "div", fixed.Div) ∷ (codes "mod", fixed.Mod)
    ∷ (codes "(", fixed.OpenParenthesis) ∷ (codes ")", fixed.CloseParenthesis) ∷ (codes "{", fixed.OpenBrace) ∷ (codes "}", fixed.CloseBrace)
    ∷ (codes ",", fixed.Comma) ∷ (codes ";", fixed.Semicolon) ∷ (codes ":", fixed.Colon) ∷ (codes ":=", fixed.Becomes)
    ∷ (codes "*", fixed.Star) ∷ (codes "+", fixed.Plus) ∷ (codes "-", fixed.Minus) ∷ (codes "!", fixed.Not)
    ∷ (codes "==", fixed.Equal) ∷ (codes "!=", fixed.Unequal) ∷ (codes "<", fixed.Less) ∷ (codes "<=", fixed.AtMost)
    ∷ (codes ">", fixed.Greater) ∷ (codes ">=", fixed.AtLeast) ∷ (codes "&&", fixed.And) ∷ (codes "||", fixed.Or)
    ∷ (codes "==>", fixed.Implies) ∷ (codes "<==>", fixed.Iff) ∷ []

-- what is spelled so
abbrev pub spelled : List ℕ → List (List ℕ × Fixed) → Option Fixed
spelled text [] = None
spelled text (row ∷ rows) = if bytes_eq text row.0 then Some row.1 else spelled text rows

abbrev pub fixed_or_name : List ℕ → Option Fixed → Sign
fixed_or_name text None = signs.Name text
fixed_or_name text (Some f) = signs.Fixed f

-- a word that is not fixed is a name
abbrev pub sign_of : TokenKind → List ℕ → Sign
sign_of kinds.Literal text = signs.Number (pos (digits_value 10 text))
sign_of kinds.Word text = fixed_or_name text (spelled text spellings)
sign_of kinds.Mark text = fixed_or_name text (spelled text spellings)

abbrev pub symbol : Token → Symbol
symbol t = record { span = t.span; sign = sign_of t.kind t.text }

-- a literal counts at most 2^127 - 1
abbrev pub fits_as : TokenKind → List ℕ → Type 0
fits_as kinds.Literal text = digits_value 10 text < 2 ^ 127
fits_as kinds.Word text = Unit {0}
fits_as kinds.Mark text = Unit {0}

abbrev pub LiteralFits : Token → Type 0
LiteralFits t = fits_as t.kind t.text
