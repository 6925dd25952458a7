-- What Decide answers to difference rows.
use Rattle.std.specs.Prelude.{◌≢◌, ℕ, List, map}
use Rattle.std.specs.List.{AllByRecursion}
use Rattle.lin_rows.specs.Rows.{LinearRow, IsRow, RowsBelow}
use Rattle.lin_rows.specs.Tightening.{tightened}
use Rattle.int_decide.specs.Decisions.{gap}
use Rattle.int_decide.specs.Decide.{decide_rows}
use Rattle.int_decide.specs.DifferenceRows.Differences.{IsDifference}

-- Rows over the columns below n, tightened, each of which is a difference row, are refuted or have a whole point, whatever the number of cuts.
abbrev pub DifferencesAreDecided : Type 0
DifferencesAreDecided = (n depth : ℕ) (rows : List LinearRow) → AllByRecursion IsRow rows → RowsBelow n rows → AllByRecursion IsDifference rows →
    decide_rows n depth (map tightened rows) ≢ gap
