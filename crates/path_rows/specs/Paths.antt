-- The path rows of a word: a system that has a whole point exactly where the word is feasible.
use Rattle.std.specs.Prelude.{◌≡◌, ℕ, zero, suc, List, [], ◌∷◌, ◌++◌, length, unwrap_or, slice_get}
use Rattle.lin_rows.specs.declared.systems.System.{System}
use Rattle.lin_rows.specs.Rows.{LinearRow, RowsBelow}
use Rattle.nwa_base.specs.declared.letters.Letter.{Letter}
use Rattle.nwa_base.specs.Acceptance.{Accepts}
use Rattle.letter_acts.specs.Frames.{Columns}
use Rattle.letter_acts.specs.Acts.{Alphabet, frame_of}
use Rattle.letter_acts.specs.Invariant.{Graph, alphabet_of}
use Rattle.letter_acts.specs.FrameRows.Rows.{bounds, types_of, columns_from}
use Rattle.path_rows.specs.Versions.{PathStage, part_rows, part_of}

-- the rows of a word; the letter that made each row and each column, from 1 and 0 for the start; and the versions of the
-- frame's columns at each position
pub record Path : Type 0 where
  pub rows : List LinearRow
  pub row_at : List ℕ
  pub column_at : List ℕ
  pub states : List (List ℕ)

-- so many times n
abbrev pub repeated : {X : Type 0} → X → ℕ → List X
repeated n zero = []
repeated n (suc k) = n ∷ repeated n k

-- what letter n makes, in front
abbrev pub path_led_by : ℕ → List LinearRow → ℕ → Path → Path
path_led_by n rows columns rest = record {
  rows = rows ++ rest.rows;
  row_at = repeated n (length rows) ++ rest.row_at;
  column_at = repeated n columns ++ rest.column_at;
  states = rest.states;
}

-- the versions at a position, in front
abbrev pub path_standing : List ℕ → Path → Path
path_standing here rest = record rest { states = here ∷ rest.states }

-- the path of the letters from number n on, from where it has come to
abbrev pub path_along : Alphabet → ℕ → PathStage → List Letter → Path
path_along al n p [] = record { rows = []; row_at = []; column_at = []; states = p.here ∷ [] }
path_along al n p (a ∷ w) =
    let part = part_of al a p in
    path_standing p.here (path_led_by n (part_rows part) part.columns (path_along al (suc n) part.after w))

-- the frame at the start
abbrev pub start_frame : Graph → Columns
start_frame g = frame_of (alphabet_of g) (unwrap_or (slice_get g.place_procs g.automaton.start) 0)

-- at the start each column of the frame has a version
abbrev pub first_stage : Columns → PathStage
first_stage frame = record { made = length frame; here = columns_from 0 (length frame); saved = [] }

-- the path of a word: the start's columns with the bounds of its booleans, and what each letter makes
abbrev pub path_of : Graph → List Letter → Path
path_of g w =
    let frame = start_frame g in
    path_led_by 0 (bounds 0 (types_of frame)) (length frame) (path_along (alphabet_of g) 1 (first_stage frame) w)

-- a path system as contracts see it
pub record PlainPath : Type 0 where
  pub word : List Letter
  pub rows : List LinearRow
  pub row_at : List ℕ
  pub column_at : List ℕ
  pub states : List (List ℕ)

-- the automaton of the graph accepts the word, and the rest is the path of the word
pub record IsPathOf (g : Graph) (p : PlainPath) : Type 0 where
  pub accepted : Accepts g.automaton p.word
  pub rows : p.rows ≡ (path_of g p.word).rows
  pub row_at : p.row_at ≡ (path_of g p.word).row_at
  pub column_at : p.column_at ≡ (path_of g p.word).column_at
  pub states : p.states ≡ (path_of g p.word).states

-- what a path system keeps: it is one of some graph
abbrev pub IsPath : PlainPath → Type 0
IsPath p = (g : Graph) × IsPathOf g p

-- what a `PathSystem` keeps: it is the path of a word over some graph, its system has no groups, and its rows are over its columns
pub record KeepsPath (p : PlainPath) (groups : List (List System)) : Type 0 where
  pub path : IsPath p
  pub no_groups : groups ≡ []
  pub within : RowsBelow (length p.column_at) p.rows
