-- Rows: `a.x <= b` or `a.x = b`, with whole numbers.
use Rattle.std.specs.Prelude.{◌≡◌, ◌≢◌, ℕ, ◌+◌, ◌≤◌, ℤ, pos, ◌≤ℤ◌, List, [], ◌∷◌}
use Rattle.std.specs.List.{AllByRecursion}
use Rattle.math_facts.specs.Fits.{Fits}
use Rattle.math_facts.specs.Terms.{dot, IsBelow}
use Rattle.lin_rows.specs.declared.types.RowKind.{RowKind}
use Rattle.lin_rows.specs.declared.types.RowKind.TheVariants.{Le, Eq}

-- a row as contracts see it: its terms, a column and a coefficient each, its kind and its bound
pub record LinearRow : Type 0 where
  pub terms : List (ℕ × ℤ)
  pub kind : RowKind
  pub bound : ℤ

-- the columns ascend strictly, from c on
abbrev pub AscendsFrom : ℕ → List (ℕ × ℤ) → Type 0
AscendsFrom c [] = Unit {0}
AscendsFrom c (t ∷ ts) = (c ≤ t.0) × AscendsFrom (t.0 + 1) ts

-- what stands in a row is not 0, and fits
pub record IsCoefficient (t : ℕ × ℤ) : Type 0 where
  pub is_not_zero : t.1 ≢ pos 0
  pub fits : Fits t.1

-- what a row keeps: its terms ascend by column, no coefficient is 0, and all numbers fit
pub record IsRow (r : LinearRow) : Type 0 where
  pub ascends : AscendsFrom 0 r.terms
  pub coefficients : AllByRecursion IsCoefficient r.terms
  pub bound_fits : Fits r.bound

-- a sum meets the bound of a row of that kind
abbrev pub Stands : RowKind → ℤ → ℤ → Type 0
Stands Le sum bound = sum ≤ℤ bound
Stands Eq sum bound = sum ≡ bound

-- the row holds at a point, which gives each column a whole number
abbrev pub Holds : (ℕ → ℤ) → LinearRow → Type 0
Holds point r = Stands r.kind (dot point r.terms) r.bound

-- all columns of the rows are below n
abbrev pub RowsBelow : ℕ → List LinearRow → Type 0
RowsBelow n rows = AllByRecursion (λ r. IsBelow n r.terms) rows
