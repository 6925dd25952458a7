-- Paths that are being made, letter by letter.
use Rattle.std.specs.Prelude.{◌≡◌, ℕ, ◌+◌, ◌≤◌, ◌^◌, List, [], ◌∷◌, ◌++◌, map, length, reverse}
use Rattle.nwa_base.specs.declared.letters.Letter.{Letter}
use Rattle.nwa_base.specs.Acceptance.{AcceptsFrom}
use Rattle.lin_rows.specs.Rows.{LinearRow}
use Rattle.letter_acts.specs.Frames.{Columns}
use Rattle.letter_acts.specs.Invariant.{Graph, alphabet_of}
use Rattle.letter_acts.specs.FrameRows.Rows.{bounds, types_of}
use Rattle.path_rows.specs.declared.parts.Made.{Made}
use Rattle.path_rows.specs.declared.drafts.Draft.{Draft}
use Rattle.path_rows.specs.Versions.{PathStage, Part, part_rows}
use Rattle.path_rows.specs.Paths.{Path, repeated, first_stage, path_along}
use Rattle.path_rows.specs.Stages.{ComesTo}

-- the rows, columns and versions are those of the part
pub record IsMade (part : Part) (m : Made) : Type 0 where
  pub rows : m.rows.items ≡ part_rows part
  pub columns : m.columns ≡ part.columns
  pub here : m.here.items ≡ part.after.here

-- where a draft has come to; the versions that were saved last are those before the innermost call
abbrev pub stage_of : Draft → PathStage
stage_of d = record { made = d.made; here = d.here.items; saved = reverse (map (λ v. v.items) d.saved.items) }

-- the draft of no letter, at the start in a frame
pub record IsStart (frame : Columns) (d : Draft) : Type 0 where
  pub stage : stage_of d ≡ first_stage frame
  pub rows : d.rows.items ≡ bounds 0 (types_of frame)
  pub row_at : d.row_at.items ≡ repeated 0 (length (bounds 0 (types_of frame)))
  pub column_at : d.column_at.items ≡ repeated 0 (length frame)
  pub states : d.states.items ≡ []
  pub counted : length frame ≤ 2 ^ 32

-- rows, columns and the next versions are added by a letter of that number
pub record Added (more : List LinearRow) (columns : ℕ) (next : List ℕ) (number : ℕ) (old new : Draft) : Type 0 where
  pub made : new.made ≡ old.made + columns
  pub here : new.here.items ≡ next
  pub saved : new.saved.items ≡ old.saved.items
  pub rows : new.rows.items ≡ old.rows.items ++ more
  pub row_at : new.row_at.items ≡ old.row_at.items ++ repeated number (length more)
  pub column_at : new.column_at.items ≡ old.column_at.items ++ repeated number columns
  pub states : map (λ v. v.items) new.states.items ≡ map (λ v. v.items) old.states.items ++ old.here.items ∷ []

-- the new draft is the old one with what a letter of that number made behind
pub record Reads (part : Part) (number : ℕ) (old new : Draft) : Type 0 where
  pub stage : stage_of new ≡ part.after
  pub rows : new.rows.items ≡ old.rows.items ++ part_rows part
  pub row_at : new.row_at.items ≡ old.row_at.items ++ repeated number (length (part_rows part))
  pub column_at : new.column_at.items ≡ old.column_at.items ++ repeated number part.columns
  pub states : map (λ v. v.items) new.states.items ≡ map (λ v. v.items) old.states.items ++ old.here.items ∷ []

-- with what is left of the word behind, the draft is the path
pub record LeadsTo (g : Graph) (n : ℕ) (d : Draft) (w : List Letter) (path : Path) : Type 0 where
  pub rows : d.rows.items ++ (path_along (alphabet_of g) n (stage_of d) w).rows ≡ path.rows
  pub row_at : d.row_at.items ++ (path_along (alphabet_of g) n (stage_of d) w).row_at ≡ path.row_at
  pub column_at : d.column_at.items ++ (path_along (alphabet_of g) n (stage_of d) w).column_at ≡ path.column_at
  pub states : map (λ v. v.items) d.states.items ++ (path_along (alphabet_of g) n (stage_of d) w).states ≡ path.states

-- the draft is the path, but for the versions at the last position, where it stands
pub record IsDone (d : Draft) (path : Path) : Type 0 where
  pub rows : d.rows.items ≡ path.rows
  pub row_at : d.row_at.items ≡ path.row_at
  pub column_at : d.column_at.items ≡ path.column_at
  pub states : map (λ v. v.items) d.states.items ++ d.here.items ∷ [] ≡ path.states

-- the automaton accepts the rest of the word from where the draft has come to
pub record CanGoOn (g : Graph) (p : PathStage) (w : List Letter) : Type 0 where
  pub places : List ℕ
  pub from : ℕ
  pub comes : ComesTo g places from p
  pub accepts : AcceptsFrom g.automaton places from w
