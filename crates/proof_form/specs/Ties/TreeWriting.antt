-- The trees that are left to write, where so many are left of each open node, of the innermost first, and of the whole trees last.
use Rattle.std.specs.Prelude.{ℕ, ◌+◌, List, [], ◌∷◌, ◌++◌, take, drop}
use Rattle.std.specs.List.{concat}

-- The first trees for each count, and behind all but the last of them a closing parenthesis.
abbrev pub closing : List ℕ → List (List ℕ) → List ℕ
closing [] ts = []
closing (c ∷ []) ts = concat (take c ts)
closing (c ∷ (d ∷ cs)) ts = concat (take c ts) ++ 41 ∷ closing (d ∷ cs) (drop c ts)

-- the sum of the counts
abbrev pub total : List ℕ → ℕ
total [] = 0
total (c ∷ cs) = c + total cs
