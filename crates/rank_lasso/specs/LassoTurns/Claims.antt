-- What refutations of a turn's rows show: that no states obey its letters, that a linear form falls, and that it is bounded.
use Rattle.std.specs.Prelude.{ℕ, ℤ, pos, ◌-ℤ◌, List, [], ◌∷◌, ◌++◌, map, slice_index}
use Rattle.std.specs.List.{AllByRecursion}
use Rattle.math_facts.specs.Fits.{Fits}
use Rattle.math_facts.specs.Terms.{opposite, IsBelow}
use Rattle.lin_rows.specs.declared.types.RowKind.TheVariants.{Le}
use Rattle.lin_rows.specs.Rows.{LinearRow, AscendsFrom, IsRow}
use Rattle.lin_rows.specs.Sums.{row_of}
use Rattle.lin_rows.specs.Tightening.{tightened}
use Rattle.farkas_check.specs.Nodes.{PlainNode}
use Rattle.farkas_check.specs.Refutes.{Goal, Refute}
use Rattle.rank_lasso.specs.LassoTurns.Turns.{Turn}

-- the terms name columns of a frame of this width, ascending, and the coefficients fit
pub record IsFormOver (width : ℕ) (terms : List (ℕ × ℤ)) : Type 0 where
  pub ascends : AscendsFrom 0 terms
  pub within : IsBelow width terms
  pub coefficients : AllByRecursion (λ t. Fits t.1) terms

-- the terms over the versions of the columns that they name
abbrev pub at_versions : List ℕ → List (ℕ × ℤ) → List (ℕ × ℤ)
at_versions versions terms = map (λ t. (slice_index versions t.0, t.1)) terms

-- the form does not fall: `r(before) - r(after) <= 0`
abbrev pub unfallen : Turn → List (ℕ × ℤ) → LinearRow
unfallen t terms = row_of (at_versions t.before terms ++ opposite (at_versions t.after terms)) Le (pos 0)

-- the form is not bounded: `r(before) <= b - 1`
abbrev pub unbounded : Turn → List (ℕ × ℤ) → ℤ → LinearRow
unbounded t terms b = row_of (at_versions t.before terms) Le (b -ℤ pos 1)

-- what the rows of a turn, tightened, ask of a tree
abbrev pub turn_goal : Turn → Goal
turn_goal t = record { rows = map tightened t.rows; groups = [] }

-- the tree refutes the turn
abbrev pub RefutesTurn : Turn → List PlainNode → Type 0
RefutesTurn t nodes = Refute nodes (turn_goal t ∷ [])

-- the turn with a row behind its own
abbrev pub turn_with : Turn → LinearRow → Turn
turn_with t r = record t { rows = t.rows ++ r ∷ [] }

-- the row's numbers fit, and the tree refutes the turn with this row
pub record RefutesWith (t : Turn) (r : LinearRow) (nodes : List PlainNode) : Type 0 where
  pub is_row : IsRow r
  pub refutes : RefutesTurn (turn_with t r) nodes
