-- Running sums: what a leaf's rows with stamps up to one add up to, version by version.
use Rattle.std.specs.Prelude.{◌≡◌, ◌≢◌, ℕ, zero, suc, ◌^◌, ◌<◌, ◌≤◌, ℤ, pos, ◌+ℤ◌, ◌*ℤ◌, List, [], ◌∷◌, length, nat_eq, if◌then◌else◌, ◌-ℤ◌, filter, slice_index}
use Rattle.std.specs.List.{AllByRecursion}
use Rattle.math_facts.specs.Fits.{Fits}
use Rattle.math_facts.specs.Terms.{coefficient}
use Rattle.lin_rows.specs.Rows.{LinearRow, AscendsFrom}
use Rattle.lin_rows.specs.Combinations.{combined, row_at}
use Rattle.nested_itp.specs.declared.nested_predicates.wide.Wide.{Wide}
use Rattle.nested_itp.specs.declared.nested_predicates.running.Running.{Running}
use Rattle.nested_itp.specs.NestedPredicates.Wides.{value_of, AreParts}

-- the number at a place, 0 past the end
abbrev pub value_at : List Wide → ℕ → ℤ
value_at [] x = pos 0
value_at (w ∷ ws) zero = value_of w
value_at (w ∷ ws) (suc x) = value_at ws x

-- each sum is one of at most so many numbers
pub record AreCounted (r : Running) : Type 0 where
  pub columns : AllByRecursion (AreParts r.count) r.columns.items
  pub bound : AreParts r.count r.bound
  pub small : r.count ≤ 2 ^ 59

-- both have numbers for as many versions
abbrev pub SameWidth : Running → Running → Type 0
SameWidth old new = length new.columns.items ≡ length old.columns.items

-- the numbers of versions that have one grow so much
abbrev pub ColumnsGrow : Running → Running → (ℕ → ℤ) → Type 0
ColumnsGrow old new by = (x : ℕ) → x < length old.columns.items → value_at new.columns.items x ≡ value_at old.columns.items x +ℤ by x

-- and that of the bounds
abbrev pub BoundGrows : Running → Running → ℤ → Type 0
BoundGrows old new by = value_of new.bound ≡ value_of old.bound +ℤ by

-- a row is added so many times
pub record AddsRow (row : LinearRow) (times : ℤ) (old new : Running) : Type 0 where
  pub width : SameWidth old new
  pub columns : ColumnsGrow old new (λ x. times *ℤ coefficient x row.terms)
  pub bound : BoundGrows old new (times *ℤ row.bound)
  pub counted : AreCounted new

-- the products of a row taken so many times fit
pub record ProductsFit (row : LinearRow) (times : ℤ) : Type 0 where
  pub terms : AllByRecursion (λ t. Fits (times *ℤ t.1)) row.terms
  pub bound : Fits (times *ℤ row.bound)

-- each part names a row, and its products fit
abbrev pub PartsFit : List LinearRow → List (ℕ × ℤ) → Type 0
PartsFit rows parts = AllByRecursion (λ t. (t.0 < length rows) × ProductsFit (row_at rows t.0) t.1) parts

-- the rows of parts are added
pub record AddsParts (rows : List LinearRow) (parts : List (ℕ × ℤ)) (old new : Running) : Type 0 where
  pub width : SameWidth old new
  pub columns : ColumnsGrow old new (λ x. combined (λ r. coefficient x r.terms) rows parts)
  pub bound : BoundGrows old new (combined (λ r. r.bound) rows parts)
  pub counted : AreCounted new

-- a number is added at one version
pub record AddsTerm (column : ℕ) (number : ℤ) (old new : Running) : Type 0 where
  pub width : SameWidth old new
  pub columns : ColumnsGrow old new (λ x. if nat_eq column x then number else pos 0)
  pub bound : new.bound ≡ old.bound
  pub counted : AreCounted new

-- terms are added so many times
pub record AddsTerms (terms : List (ℕ × ℤ)) (times : ℤ) (old new : Running) : Type 0 where
  pub width : SameWidth old new
  pub columns : ColumnsGrow old new (λ x. times *ℤ coefficient x terms)
  pub bound : new.bound ≡ old.bound
  pub counted : AreCounted new

-- a number is added to that of the bounds
pub record AddsBound (number : ℤ) (old new : Running) : Type 0 where
  pub columns : new.columns.items ≡ old.columns.items
  pub bound : BoundGrows old new number
  pub counted : AreCounted new

-- ---- read over the columns of a frame

abbrev pub behind_first : List Wide → List Wide
behind_first [] = []
behind_first (w ∷ ws) = ws

-- of each version its number, less the known number in its place
abbrev pub differences : List Wide → List Wide → List ℕ → List ℤ
differences columns known [] = []
differences columns known (v ∷ vs) = (value_at columns v -ℤ value_at known 0) ∷ differences columns (behind_first known) vs

-- the terms of an inequality: they ascend, no coefficient is 0, and each fits
pub record AreSumTerms (terms : List (ℕ × ℤ)) : Type 0 where
  pub ascends : AscendsFrom 0 terms
  pub not_zero : AllByRecursion (λ t. t.1 ≢ pos 0) terms
  pub fit : AllByRecursion (λ t. Fits t.1) terms

-- the parts of a leaf whose rows have this stamp
abbrev pub parts_at : List ℕ → ℕ → List (ℕ × ℤ) → List (ℕ × ℤ)
parts_at stamps s parts = filter (λ t. nat_eq (slice_index stamps t.0) s) parts
