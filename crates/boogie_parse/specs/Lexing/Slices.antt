-- Tokens as slices of their text.
use Rattle.std.specs.Prelude.{◌≡◌, ℕ, ◌+◌, ◌<◌, ◌≤◌, List, [], ◌∷◌, length, take, drop}
use Rattle.boogie_tree.specs.Places.{beginning}
use Rattle.boogie_parse.specs.declared.lexer.token.Token.{Token}
use Rattle.boogie_parse.specs.Lexing.Places.{behind}

-- the token is the slice of the text behind n bytes, and stands there
pub record IsSlice (text : List ℕ) (n : ℕ) (t : Token) : Type 0 where
  pub within : n + length t.text ≤ length text
  pub is_some : 0 < length t.text
  pub bytes : take (length t.text) (drop n text) ≡ t.text
  pub place : t.span ≡ behind (take n text) beginning

-- the tokens are slices in order, none of which begins before n bytes
abbrev pub AreSlices : ℕ → List ℕ → List Token → Type 0
AreSlices n text [] = Unit {0}
AreSlices n text (t ∷ ts) = (m : ℕ) × (n ≤ m) × IsSlice text m t × AreSlices (m + length t.text) text ts
