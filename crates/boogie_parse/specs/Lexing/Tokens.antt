-- Marks and runs of bytes that a text begins with.
use Rattle.std.specs.Prelude.{ℕ, suc, Bool, false, ◌||◌, ◌&&◌, ◌==◌, nat_eq, List, [], ◌∷◌, length, Option, None, Some, codes, if◌then◌else◌}
use Rattle.std.specs.List.{find, starts_with}
use Rattle.boogie_tree.specs.Names.{is_digit, is_letter}
use Rattle.boogie_parse.specs.declared.token.TokenKind.{TokenKind}
use Rattle.boogie_parse.specs.declared.token.TokenKind.TheVariants.{Mark}

-- the marks, longer ones before those that they begin with
abbrev pub marks : List (List ℕ)
marks =
    codes "<==>"
    ∷ codes "==>" ∷ codes "<=="
    ∷ codes ":=" ∷ codes "==" ∷ codes "!=" ∷ codes "<=" ∷ codes ">=" ∷ codes "&&" ∷ codes "||" ∷ codes "<:" ∷ codes "++" ∷ codes "**" ∷ codes "::"
    ∷ codes "(" ∷ codes ")" ∷ codes "{" ∷ codes "}" ∷ codes "[" ∷ codes "]" ∷ codes "," ∷ codes ";" ∷ codes ":"
    ∷ codes "*" ∷ codes "+" ∷ codes "-" ∷ codes "/" ∷ codes "%" ∷ codes "!" ∷ codes "<" ∷ codes ">" ∷ []

-- how many bytes at the front pass
abbrev pub passing_length : (ℕ → Bool) → List ℕ → ℕ
passing_length passes [] = 0
passing_length passes (b ∷ bs) = if passes b then suc (passing_length passes bs) else 0

abbrev pub begins_with : (ℕ → Bool) → List ℕ → Bool
begins_with passes [] = false
begins_with passes (b ∷ bs) = passes b

-- what makes a run of digits before it a real: a letter, an underscore, or a point and a digit
abbrev pub makes_real : List ℕ → Bool
makes_real [] = false
makes_real (b ∷ bs) = is_letter b || b == 95 || (b == 46 && begins_with is_digit bs)

-- what a token is, and how many bytes it has
abbrev pub Extent : Type 0
Extent = TokenKind × ℕ

abbrev pub mark_of : Option (List ℕ) → Option Extent
mark_of None = None
mark_of (Some m) = Some (Mark, length m)

abbrev pub mark_at : List ℕ → Option Extent
mark_at bs = mark_of (find (λ m. starts_with nat_eq bs m) marks)
