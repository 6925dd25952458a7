-- Named texts, and what has moved from one place to another.
use Rattle.std.specs.Prelude.{◌≡◌, ℕ, ◌≤◌, List, [], ◌∷◌, ◌++◌, length, take, drop, Option, None, Some, if◌then◌else◌}
use Rattle.std.specs.Str.{bytes_eq}

-- the text of the first pair with that name
abbrev pub text_named : List ℕ → List (List ℕ × List ℕ) → Option (List ℕ)
text_named name [] = None
text_named name (t ∷ ts) = if bytes_eq t.0 name then Some t.1 else text_named name ts

-- at most n bytes of the text have been taken from its front, and left is the rest
abbrev pub TakesAtMost : ℕ → List ℕ → Option (List ℕ) → Type 0
TakesAtMost n text left = (k : ℕ) × (k ≤ n) × (left ≡ Some (drop k text))

-- new is old with some front of the text at its end
abbrev pub GainsFront : List ℕ → List ℕ → Option (List ℕ) → Type 0
GainsFront text old new = (k : ℕ) × (k ≤ length text) × (new ≡ Some (old ++ take k text))
