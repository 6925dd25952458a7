-- Which of the points that meet rows the elimination finds: column by column, the value is picked from those that the values
-- before it leave.
use Rattle.std.specs.Prelude.{◌≡◌, ◌⊎◌, ℕ, ℤ, pos, ◌*ℤ◌, ◌≤ℤ◌, List, ◌∷◌, ◌++◌}
use Rattle.std.specs.List.{AllByRecursion}
use Rattle.frac.specs.Fractions.{Fraction, IsLowest}
use Rattle.lin_rows.specs.Rows.{LinearRow}
use Rattle.fm_elim.specs.Quotients.{whole}
use Rattle.fm_elim.specs.Elimination.{EliminationOutcome, refuted, point}
use Rattle.fm_elim.specs.Worth.{IsSolvable, MeetsAll}

-- z lies on the way from 0 to j
abbrev pub IsOnTheWay : ℤ → ℤ → Type 0
IsOnTheWay z j = ((pos 0 ≤ℤ z) × (z ≤ℤ j)) ⊎ ((j ≤ℤ z) × (z ≤ℤ pos 0))

-- the value of a is at most that of b
abbrev pub IsAtMost : Fraction → Fraction → Type 0
IsAtMost a b = (a.num *ℤ b.den) ≤ℤ (b.num *ℤ a.den)

-- The pick of a set of fractions: its whole number nearest 0, or its least member where it has no whole number.
pub record IsPick (P : Fraction → Type 0) (v : Fraction) : Type 0 where
  pub member : P v
  pub nearest : (j : ℤ) → P (whole j) → (z : ℤ) × ((v ≡ whole z) × IsOnTheWay z j)
  pub least : ((j : ℤ) → P (whole j) → ⊥) → (w : Fraction) → P w → IsAtMost v w

-- some point begins with these values, and then v
abbrev pub InSlice : (List Fraction → Type 0) → List Fraction → Fraction → Type 0
InSlice IsOne before v = (rest : List Fraction) × IsOne (before ++ v ∷ rest)

-- of these points, the one each of whose values is the pick of what the values before it leave
pub record IsPicked (IsOne : List Fraction → Type 0) (values : List Fraction) : Type 0 where
  pub one : IsOne values
  pub picks : (before : List Fraction) (v : Fraction) (rest : List Fraction) → values ≡ before ++ v ∷ rest → IsPick (InSlice IsOne before) v

-- a rational point that meets the rows, a value in lowest terms for each of n columns
pub record IsPoint (n : ℕ) (rows : List LinearRow) (values : List Fraction) : Type 0 where
  pub lowest : AllByRecursion IsLowest values
  pub meets : MeetsAll n rows values

-- the rows have no rational point where they are refuted, and else the point is the one that is picked
abbrev pub IsPickedOutcome : ℕ → List LinearRow → EliminationOutcome → Type 0
IsPickedOutcome n rows (refuted parts) = IsSolvable rows → ⊥
IsPickedOutcome n rows (point values) = IsPicked (IsPoint n rows) values
