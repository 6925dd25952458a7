-- Words of texts.
use Rattle.std.specs.Prelude.{◌≡◌, ◌==◌, ℕ, ◌<◌, ◌++◌, List, [], ◌∷◌, length, ⊤}
use Rattle.std.specs.List.{before_first, after_first}
use Rattle.std.specs.Char.{is_whitespace, is_not_whitespace}
use Rattle.std.specs.Str.{NoCharPasses, EmptyOrStartsWithPassing}

-- the text before its first blank, which is all of it where there is none
abbrev pub first_of : List ℕ → List ℕ
first_of text = before_first (λ b. b == 32) text

-- what stands behind its first blank, which is nothing where there is none
abbrev pub behind_first : List ℕ → List ℕ
behind_first text = after_first (λ b. b == 32) text

-- the word stands in the text first behind white space that may be missing, and ends where white space or the rest's end is
pub record BeginsWith (text word rest : List ℕ) : Type 0 where
  pub gap : List ℕ
  pub whole : text ≡ gap ++ (word ++ rest)
  pub blank : NoCharPasses is_not_whitespace gap
  pub some : 0 < length word
  pub dark : NoCharPasses is_whitespace word
  pub ends : (more : List ℕ) × EmptyOrStartsWithPassing is_whitespace rest more

-- ws are the words of the text, in order, with white space between them
abbrev pub AreWords : List ℕ → List (List ℕ) → Type 0
AreWords text [] = NoCharPasses is_not_whitespace text
AreWords text (w ∷ ws) = (rest : List ℕ) × BeginsWith text w rest × AreWords rest ws

-- there are as many numbers as words, and P holds of each word and the number at its place
abbrev pub ArePaired : {N : Type 0} → (List ℕ → N → Type 0) → List (List ℕ) → List N → Type 0
ArePaired P [] [] = ⊤
ArePaired P (w ∷ ws) (n ∷ ns) = P w n × ArePaired P ws ns
ArePaired P [] (n ∷ ns) = ⊥
ArePaired P (w ∷ ws) [] = ⊥
