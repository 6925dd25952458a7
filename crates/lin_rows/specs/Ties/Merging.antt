-- Two ascending lists of terms, `a` and `b`, merged into the terms of `a + m*b`.
use Rattle.std.specs.Prelude.{◌≡◌, ℕ, ◌+ℤ◌, ℤ, ◌*ℤ◌, List, [], ◌∷◌, Option, None, Some, nat_eq, min, if◌then◌else◌}
use Rattle.std.specs.List.{AllByRecursion}
use Rattle.math_facts.specs.Fits.{Fits}
use Rattle.math_facts.specs.Terms.{coefficient}
use Rattle.lin_rows.specs.Rows.{AscendsFrom, IsCoefficient}

-- the least column that stands in one of two ascending lists
abbrev pub least_column : List (ℕ × ℤ) → List (ℕ × ℤ) → Option ℕ
least_column [] [] = None
least_column [] (u ∷ us) = Some u.0
least_column (t ∷ ts) [] = Some t.0
least_column (t ∷ ts) (u ∷ us) = Some (min t.0 u.0)

-- the terms without the first, if that has the column c
abbrev pub after_column : ℕ → List (ℕ × ℤ) → List (ℕ × ℤ)
after_column c [] = []
after_column c (t ∷ ts) = if nat_eq t.0 c then ts else t ∷ ts

-- terms as a row has them
pub record AreTerms (ts : List (ℕ × ℤ)) : Type 0 where
  pub ascends : AscendsFrom 0 ts
  pub coefficients : AllByRecursion IsCoefficient ts

-- the product and the sum of one column fit
abbrev pub ColumnFits : ℤ → List (ℕ × ℤ) → List (ℕ × ℤ) → ℕ → Type 0
ColumnFits m a b c = Fits (m *ℤ coefficient c b) × Fits (coefficient c a +ℤ (m *ℤ coefficient c b))

-- each product and each sum fits, and these terms are `a + m*b`
pub record AreMerged (a : List (ℕ × ℤ)) (m : ℤ) (b sum : List (ℕ × ℤ)) : Type 0 where
  pub fits : (c : ℕ) → ColumnFits m a b c
  pub terms : AreTerms sum
  pub coefficients : (c : ℕ) → coefficient c sum ≡ coefficient c a +ℤ (m *ℤ coefficient c b)
