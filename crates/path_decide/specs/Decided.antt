-- What Decide says of the rows of a word, and when its numbers fit.
use Rattle.std.specs.Prelude.{◌≡◌, ℕ, ℤ, List, [], ◌∷◌, length, map, Result, Ok, Err}
use Rattle.std.specs.List.{AllByRecursion}
use Rattle.math_facts.specs.Fits.{Fits}
use Rattle.lin_rows.specs.Rows.{LinearRow, Holds}
use Rattle.lin_rows.specs.Points.{point_of}
use Rattle.lin_rows.specs.Tightening.{tightened}
use Rattle.farkas_check.specs.Nodes.{PlainNode}
use Rattle.farkas_check.specs.Refutes.{Goal, Refute}
use Rattle.int_decide.specs.declared.types.Answer.{Answer}
use Rattle.int_decide.specs.declared.types.Answer.TheVariants.{Refuted, Whole}
use Rattle.int_decide.specs.declared.types.DecideFault.{DecideFault}
use Rattle.int_decide.specs.declared.types.DecideFault.TheVariants.{Gap, Past, Memory}
use Rattle.int_decide.specs.Decisions.{Decision, refuted, whole, gap, WhereRefuted}
use Rattle.int_decide.specs.Decide.{decide_rows}
use Rattle.int_decide.specs.Numbers.{RowsFit, LeavesFit}
use Rattle.int_decide.specs.Worth.{IsTreeOf}
use Rattle.int_decide.specs.DifferenceRows.Differences.{IsDifference}
use Rattle.nwa_base.specs.declared.letters.Letter.{Letter}
use Rattle.letter_acts.specs.Invariant.{Graph}
use Rattle.path_rows.specs.Paths.{path_of}

-- the rows of a word, as Decide and refutations take them
abbrev pub tight_rows : Graph → List Letter → List LinearRow
tight_rows g w = map tightened (path_of g w).rows

-- what a tree that refutes them has to refute
abbrev pub path_goal : Graph → List Letter → Goal
path_goal g w = record { rows = tight_rows g w; groups = [] }

-- the tree refutes the rows of the word
abbrev pub RefutesPath : Graph → List Letter → List PlainNode → Type 0
RefutesPath g w nodes = Refute nodes (path_goal g w ∷ [])

-- Decide of the rows of the word over its columns, with d cuts on a branch at most
abbrev pub path_decision : Graph → ℕ → List Letter → Decision
path_decision g d w = decide_rows (length (path_of g w).column_at) d (tight_rows g w)

-- all numbers of that fit: those of its eliminations and, where it is a refutation, those of its leaves and cuts
pub record PathFits (g : Graph) (d : ℕ) (w : List Letter) : Type 0 where
  pub eliminations : RowsFit (length (path_of g w).column_at) d (tight_rows g w)
  pub leaves : WhereRefuted (path_decision g d w) (λ ns. LeavesFit ns (path_goal g w ∷ []))

-- the point is Decide's own, it meets the rows of the word, and its values fit
pub record IsWholePoint (g : Graph) (d : ℕ) (w : List Letter) (values : List ℤ) : Type 0 where
  pub decided : path_decision g d w ≡ whole values
  pub meets : AllByRecursion (Holds (point_of values)) (path_of g w).rows
  pub fit : AllByRecursion Fits values

-- a refutation of the rows of the word, with d cuts on a branch at most
pub record IsRefutation (g : Graph) (d : ℕ) (w : List Letter) (nodes : List PlainNode) : Type 0 where
  pub refutes : RefutesPath g w nodes
  pub tree : IsTreeOf d nodes

-- Decide has neither a refutation of the rows of the word nor a whole point of them, and they are not all difference rows
pub record IsGap (g : Graph) (d : ℕ) (w : List Letter) : Type 0 where
  pub decided : path_decision g d w ≡ gap
  pub others : AllByRecursion IsDifference (path_of g w).rows → ⊥

-- rows, as refutations take them, without groups
abbrev pub goal_of_rows : List LinearRow → Goal
goal_of_rows rows = record { rows = map tightened rows; groups = [] }

-- a refutation of these rows, with d cuts on a branch at most
pub record IsRowsRefutation (d : ℕ) (rows : List LinearRow) (nodes : List PlainNode) : Type 0 where
  pub refutes : Refute nodes (goal_of_rows rows ∷ [])
  pub tree : IsTreeOf d nodes

-- What may be answered of a word: a refutation of its rows, not necessarily Decide's own; Decide's whole point; that Decide has neither; that a
-- number of Decide does not fit; or that memory ran out.
abbrev pub IsAnswer : Graph → ℕ → List Letter → Result Answer DecideFault → Type 0
IsAnswer g d w (Ok (Refuted nodes)) = IsRefutation g d w nodes
IsAnswer g d w (Ok (Whole values)) = IsWholePoint g d w values.items
IsAnswer g d w (Err Gap) = IsGap g d w
IsAnswer g d w (Err Past) = PathFits g d w → ⊥
IsAnswer g d w (Err Memory) = Unit {0}

-- a refutation that is answered is Decide's own
abbrev pub IsOwn : Graph → ℕ → List Letter → Result Answer DecideFault → Type 0
IsOwn g d w (Ok (Refuted nodes)) = path_decision g d w ≡ refuted nodes
IsOwn g d w (Ok (Whole values)) = Unit {0}
IsOwn g d w (Err fault) = Unit {0}
