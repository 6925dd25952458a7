-- The way back over what eliminated columns left.
use Rattle.std.specs.Prelude.{◌≡◌, ◌≢◌, ◌↔◌, ℕ, ◌+◌, ◌-◌, ℤ, pos, List, [], ◌∷◌, Option, None, Some, length}
use Rattle.std.specs.List.{AllByRecursion}
use Rattle.std.specs.declared.vec.Vec.{Vec}
use Rattle.std.specs.declared.alloc.Global.{Global}
use Rattle.frac.specs.Fractions.{Fraction}
use Rattle.fm_elim.specs.Derivations.{DerivedRow, at}
use Rattle.fm_elim.specs.Columns.{SetAside, forced, bounded}
use Rattle.fm_elim.specs.Elimination.{EliminationOutcome, refuted, point, extended, ExtendedFits, solve, SolveFits}

-- the outcome at the columns below n, from the outcome that the last column set aside led to
abbrev pub climb : ℕ → List SetAside → EliminationOutcome → EliminationOutcome
climb n [] o = o
climb n (a ∷ rest) o = extended (n - 1) a (climb (n - 1) rest o)

abbrev pub ClimbFits : ℕ → List SetAside → EliminationOutcome → Type 0
ClimbFits n [] o = Unit {0}
ClimbFits n (a ∷ rest) o = ClimbFits (n - 1) rest o × ExtendedFits (n - 1) a (climb (n - 1) rest o)

-- the column stands in each row that is set aside for it
abbrev pub SetsColumn : ℕ → SetAside → Type 0
SetsColumn k (forced e) = at k e ≢ pos 0
SetsColumn k (bounded ls us) = AllByRecursion (λ r. at k r ≢ pos 0) ls × AllByRecursion (λ r. at k r ≢ pos 0) us

-- so it is for each column set aside, from the last below n on
abbrev pub SetColumns : ℕ → List SetAside → Type 0
SetColumns n [] = Unit {0}
SetColumns n (a ∷ rest) = SetsColumn (n - 1) a × SetColumns (n - 1) rest

-- each of n columns has a value or is set aside, where the outcome is a point
abbrev pub HasHeight : ℕ → List SetAside → EliminationOutcome → Type 0
HasHeight n asides (refuted parts) = Unit {0}
HasHeight n asides (point values) = length values + length asides ≡ n

-- On the way down: the given rows over n columns have the outcome of the rows that are left, over the columns that are left,
-- once the way back is gone.
pub record IsDown (n : ℕ) (given : List DerivedRow) (left : ℕ) (rows : List DerivedRow) (asides : List SetAside) : Type 0 where
  pub value : solve n given ≡ climb n asides (solve left rows)
  pub fits : SolveFits n given ↔ (ClimbFits n asides (solve left rows) × SolveFits left rows)
  pub height : left + length asides ≡ n
  pub set : SetColumns n asides

-- at the end of the way down
pub record IsBottom (n : ℕ) (given : List DerivedRow) (asides : List SetAside) (bottom : EliminationOutcome) : Type 0 where
  pub value : solve n given ≡ climb n asides bottom
  pub fits : SolveFits n given ↔ ClimbFits n asides bottom
  pub height : HasHeight n asides bottom
  pub set : SetColumns n asides

-- On the way back: the outcome over n columns is that of the columns still set aside, from the values found so far.
pub record IsUp (n : ℕ) (given asides : List SetAside) (values : List Fraction) : Type 0 where
  pub value : climb n given (point []) ≡ climb n asides (point values)
  pub fits : ClimbFits n given (point []) ↔ ClimbFits n asides (point values)
  pub height : length values + length asides ≡ n
  pub set : SetColumns n asides

-- the outcome at the bottom: multipliers of a false row, or a point without columns
abbrev pub bottom_of : Option (Vec (ℕ × ℤ) Global) → EliminationOutcome
bottom_of None = point []
bottom_of (Some parts) = refuted parts.items
