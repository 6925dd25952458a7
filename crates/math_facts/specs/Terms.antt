-- Sums of products: a term is a column with its coefficient.
use Rattle.std.specs.Prelude.{ℕ, ◌<◌, ℤ, pos, ◌+ℤ◌, ◌*ℤ◌, neg_ℤ, List, [], ◌∷◌, nat_eq, map, if◌then◌else◌}

-- the coefficient of a column, which may stand in several terms
abbrev pub coefficient : ℕ → List (ℕ × ℤ) → ℤ
coefficient c [] = pos 0
coefficient c (t ∷ ts) = (if nat_eq t.0 c then t.1 else pos 0) +ℤ coefficient c ts

-- the value of the terms at a point, which gives each column a whole number
abbrev pub dot : (ℕ → ℤ) → List (ℕ × ℤ) → ℤ
dot point [] = pos 0
dot point (t ∷ ts) = (t.1 *ℤ point t.0) +ℤ dot point ts

-- each term times m
abbrev pub scaled : ℤ → List (ℕ × ℤ) → List (ℕ × ℤ)
scaled m ts = map (λ t. (t.0, m *ℤ t.1)) ts

-- each term with the other sign
abbrev pub opposite : List (ℕ × ℤ) → List (ℕ × ℤ)
opposite ts = map (λ t. (t.0, neg_ℤ t.1)) ts

-- each term's column is below n
abbrev pub IsBelow : ℕ → List (ℕ × ℤ) → Type 0
IsBelow n [] = Unit {0}
IsBelow n (t ∷ ts) = (t.0 < n) × IsBelow n ts

-- the point with the value v at one column
abbrev pub with_value : (ℕ → ℤ) → ℕ → ℤ → ℕ → ℤ
with_value point c v k = if nat_eq c k then v else point k
