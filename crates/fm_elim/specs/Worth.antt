-- What the outcomes of the elimination are worth: a combination that is false, or a rational point that meets all rows.
use Rattle.std.specs.Prelude.{◌≡◌, ℕ, ℤ, pos, ◌*ℤ◌, ◌<ℤ◌, List, length}
use Rattle.std.specs.List.{AllByRecursion}
use Rattle.math_facts.specs.Terms.{coefficient, dot}
use Rattle.frac.specs.Fractions.{Fraction, IsRatio}
use Rattle.lin_rows.specs.Rows.{LinearRow, AscendsFrom, Stands}
use Rattle.lin_rows.specs.Combinations.{IsPart, combined}
use Rattle.fm_elim.specs.Values.{value_at}
use Rattle.fm_elim.specs.Elimination.{EliminationOutcome, refuted, point}

-- The combination says `0 <= c` with `c < 0` (Farkas, 1902). Whether its own numbers fit is not said.
pub record Combines (rows : List LinearRow) (parts : List (ℕ × ℤ)) : Type 0 where
  pub ascends : AscendsFrom 0 parts
  pub each : AllByRecursion (IsPart rows) parts
  pub columns_vanish : (c : ℕ) → combined (λ r. coefficient c r.terms) rows parts ≡ pos 0
  pub bound_negative : combined (λ r. r.bound) rows parts <ℤ pos 0

-- a row holds at the rational point whose column c has the value p c / d
abbrev pub HoldsAt : ℤ → (ℕ → ℤ) → LinearRow → Type 0
HoldsAt d p r = Stands r.kind (dot p r.terms) (r.bound *ℤ d)

-- some rational point meets the rows
pub record IsSolvable (rows : List LinearRow) : Type 0 where
  pub d : ℤ
  pub p : ℕ → ℤ
  pub positive : pos 0 <ℤ d
  pub holds : AllByRecursion (HoldsAt d p) rows

-- the rational point with these values, a value for each of n columns, meets the rows
pub record MeetsAll (n : ℕ) (rows : List LinearRow) (values : List Fraction) : Type 0 where
  pub columns : length values ≡ n
  pub d : ℤ
  pub p : ℕ → ℤ
  pub positive : pos 0 <ℤ d
  pub values_are : (c : ℕ) → IsRatio (value_at values c) (p c) d
  pub holds : AllByRecursion (HoldsAt d p) rows

-- the outcome is true of the rows
abbrev pub IsWorth : ℕ → List LinearRow → EliminationOutcome → Type 0
IsWorth n rows (refuted parts) = Combines rows parts
IsWorth n rows (point values) = MeetsAll n rows values
