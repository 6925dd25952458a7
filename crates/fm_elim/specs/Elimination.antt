-- The elimination of all columns, from the last to the first, and the way back.
use Rattle.std.specs.Prelude.{ℕ, zero, suc, ℤ, List, [], ◌∷◌, ◌++◌, Option, None, Some}
use Rattle.frac.specs.Fractions.{Fraction}
use Rattle.lin_rows.specs.Rows.{LinearRow}
use Rattle.fm_elim.specs.Folds.{first}
use Rattle.fm_elim.specs.Derivations.{DerivedRow, inputs, is_false, refuting}
use Rattle.fm_elim.specs.Columns.{SetAside, elimination_step, EliminationStepFits}
use Rattle.fm_elim.specs.Values.{value_of, ValueFits}

-- multipliers of the tightened input rows that refute them, or a rational point, a value for each column
pub data EliminationOutcome : Type 0 where
  refuted : List (ℕ × ℤ) → EliminationOutcome
  point : List Fraction → EliminationOutcome

-- a row that is false refutes; else the outcome stands
abbrev pub unless_false : Option DerivedRow → EliminationOutcome → EliminationOutcome
unless_false None o = o
unless_false (Some r) o = refuted (refuting r)

-- a point is extended by the value of the next column
abbrev pub extended : ℕ → SetAside → EliminationOutcome → EliminationOutcome
extended k aside (refuted parts) = refuted parts
extended k aside (point values) = point (values ++ value_of k values aside ∷ [])

-- rows over the columns below n
abbrev pub solve : ℕ → List DerivedRow → EliminationOutcome
solve zero rows = unless_false (first is_false rows) (point [])
solve (suc k) rows = unless_false (first is_false rows) (extended k (elimination_step k rows).aside (solve k (elimination_step k rows).rows))

-- the outcome of the elimination of the first columns from given rows, which it tightens
abbrev pub elimination : ℕ → List LinearRow → EliminationOutcome
elimination columns rows = solve columns (inputs 0 rows)

-- ---- all its numbers fit

abbrev pub ExtendedFits : ℕ → SetAside → EliminationOutcome → Type 0
ExtendedFits k aside (refuted parts) = Unit {0}
ExtendedFits k aside (point values) = ValueFits k values aside

-- what is not computed after a false row does not count
abbrev pub UnlessFalse : Option DerivedRow → Type 0 → Type 0
UnlessFalse None P = P
UnlessFalse (Some r) P = Unit {0}

abbrev pub SolveFits : ℕ → List DerivedRow → Type 0
SolveFits zero rows = Unit {0}
SolveFits (suc k) rows =
    UnlessFalse (first is_false rows)
    (EliminationStepFits k rows × SolveFits k (elimination_step k rows).rows × ExtendedFits k (elimination_step k rows).aside (solve k (elimination_step k rows).rows))

abbrev pub EliminationFits : ℕ → List LinearRow → Type 0
EliminationFits columns rows = SolveFits columns (inputs 0 rows)
