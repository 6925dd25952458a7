-- Where a word has come to, as the code reads it.
use Rattle.std.specs.Prelude.{◌≡◌, ℕ, suc, ◌+◌, Bool, List, [], ◌∷◌, ◌++◌, filter, length, reverse, Some, slice_get}
use Rattle.nwa_base.specs.declared.letters.Kind.{Kind}
use Rattle.nwa_base.specs.declared.letters.Kind.TheVariants.{Inside, Call, Back}
use Rattle.nwa_base.specs.declared.letters.Letter.{Letter}
use Rattle.lin_rows.specs.Rows.{LinearRow}
use Rattle.letter_acts.specs.Frames.{Columns, is_variable}
use Rattle.letter_acts.specs.Acts.{back_act, Alphabet, act_of}
use Rattle.letter_acts.specs.Invariant.{Graph, alphabet_of, BackIsActedFrom}
use Rattle.letter_acts.specs.FrameRows.Rows.{bounds, types_at}
use Rattle.path_rows.specs.Versions.{local_columns, old_part}
use Rattle.path_rows.specs.Paths.{start_frame, first_stage}
use Rattle.farkas_check.specs.Trees.{Tree}
use Rattle.nested_itp.specs.NestedPredicates.Positions.{Position, positions_of, start_scope}
use Rattle.nested_itp.specs.NestedRefutations.Numbers as numbers
use Rattle.nested_itp.specs.NestedRefutations.Walked.{inside_gaps, call_gaps, back_gaps}
use Rattle.nested_itp.specs.declared.triple_steps.readings.Reading.{Reading}
use Rattle.nested_itp.specs.declared.triple_steps.readings.OpenCall.{OpenCall}
use Rattle.nested_itp.specs.declared.triple_steps.making.Step.{Step}
use Rattle.nested_itp.specs.TripleSteps.Sections.{call_counts, back_counts}
use Rattle.nested_itp.specs.TripleSteps.Steps.{IsStep}

-- the word's position with this number
abbrev pub IsAt : Graph → List Letter → ℕ → Position → Type 0
IsAt g w n q = slice_get (positions_of g w) n ≡ Some q

-- the call is open: it stands behind that position, with so many rows and columns before it
pub record IsCall (g : Graph) (w : List Letter) (o : numbers.OpenCall) (c : OpenCall) : Type 0 where
  pub number : o.number ≡ suc c.at
  pub rows : o.rows ≡ c.rows
  pub made : o.made ≡ c.made
  pub before : IsAt g w c.at o.before

abbrev pub AreCalls : Graph → List Letter → List numbers.OpenCall → List OpenCall → Type 0
AreCalls g w [] [] = Unit {0}
AreCalls g w [] (c ∷ cs) = ⊥
AreCalls g w (o ∷ os) [] = ⊥
AreCalls g w (o ∷ os) (c ∷ cs) = IsCall g w o c × AreCalls g w os cs

-- the word has come to there
pub record IsReading (g : Graph) (w : List Letter) (r : numbers.Reading) (s : Reading) : Type 0 where
  pub letters : r.letters ≡ s.letters
  pub rows : r.rows ≡ s.rows
  pub made : r.stage.made ≡ s.made
  pub calls : AreCalls g w r.calls (reverse s.calls.items)

-- before the first letter
abbrev pub start_reading : Graph → numbers.Reading
start_reading g = record {
  letters = 0;
  rows = numbers.bounds_in (start_frame g);
  stage = first_stage (start_frame g);
  scopes = start_scope g ∷ [];
  calls = [];
}

-- without the innermost call
abbrev pub calls_left : List OpenCall → List OpenCall
calls_left [] = []
calls_left (c ∷ calls) = calls

-- an inside letter with so many rows is passed
pub record PassesInside (s : Reading) (frame : Columns) (written : List ℕ) (helpers count : ℕ) (new : Reading) : Type 0 where
  pub letters : new.letters ≡ s.letters + 1
  pub rows : new.rows ≡ s.rows + (count + length (bounds 0 (types_at frame written)))
  pub made : new.made ≡ s.made + (length written + helpers)
  pub calls : new.calls.items ≡ s.calls.items

-- a call is
pub record PassesCall (s : Reading) (callee : Columns) (helpers count : ℕ) (new : Reading) : Type 0 where
  pub letters : new.letters ≡ s.letters + 1
  pub rows : new.rows ≡ s.rows + (count + (length (filter is_variable callee) + (numbers.bounds_in (local_columns callee) + numbers.bounds_in (old_part callee))))
  pub made : new.made ≡ s.made + (length (local_columns callee) + (helpers + length (old_part callee)))
  pub calls : new.calls.items ≡ s.calls.items ++ record { at = s.letters; rows = s.rows; made = s.made } ∷ []

-- a return is
pub record PassesBack (s : Reading) (new : Reading) : Type 0 where
  pub letters : new.letters ≡ s.letters + 1
  pub rows : new.rows ≡ s.rows
  pub made : new.made ≡ s.made
  pub calls : reverse new.calls.items ≡ calls_left (reverse s.calls.items)

-- a return finds an open call
abbrev pub FindsCall : Kind → List OpenCall → Type 0
FindsCall Inside calls = Unit {0}
FindsCall Call calls = Unit {0}
FindsCall Back [] = ⊥
FindsCall Back (c ∷ calls) = Unit {0}

-- the step is that of an inside letter which is read next, for any letter in whose triple's system so many rows stand before those of each claim
abbrev pub IsInsideStep : Reading → Columns → List ℕ → ℕ → ℕ → Step → Type 0
IsInsideStep s frame written helpers count f =
    (g : Graph) (w : List Letter) (t : Tree) (letter : ℕ) (from to : Position) (rows : List LinearRow) → length rows ≡ count → inside_gaps (slice_get g.acts letter) ≡ 0 ∷ count ∷ [] →
    IsAt g w s.letters from → IsAt g w (suc s.letters) to → IsStep g w t (numbers.inside_step g w t letter (suc s.letters) s.rows s.made from to frame written helpers rows) f

-- of a call
abbrev pub IsCallStep : Reading → Bool → Columns → Columns → ℕ → ℕ → Step → Type 0
IsCallStep s returns caller callee helpers count f =
    (g : Graph) (w : List Letter) (t : Tree) (letter : ℕ) (from to : Position) (rows : List LinearRow) → length rows ≡ count → call_gaps (alphabet_of g) (slice_get g.acts letter) ≡ call_counts callee count →
    IsAt g w s.letters from → IsAt g w (suc s.letters) to → IsStep g w t (numbers.call_step g w t letter (suc s.letters) s.rows s.made returns from to caller callee helpers rows) f

-- of a return from an open call
abbrev pub IsBackStep : Reading → OpenCall → Columns → Columns → ℕ → ℕ → List ℕ → Step → Type 0
IsBackStep s call caller callee helpers count targets f =
    (g : Graph) (w : List Letter) (t : Tree) (letter : ℕ) (o : numbers.OpenCall) (exit to : Position) (rows : List LinearRow) → length rows ≡ count →
    back_gaps (alphabet_of g) (slice_get g.acts letter) ≡ back_counts caller callee targets count → IsCall g w o call → IsAt g w s.letters exit → IsAt g w (suc s.letters) to →
    IsStep g w t (numbers.back_step g w t letter o exit to caller callee helpers rows targets) f

-- the one step of a letter that is read next
pub record IsStepBy (g : Graph) (w : List Letter) (t : Tree) (a : Letter) (rest : List Letter) (r : numbers.Reading) (to : Position) (f : Step) : Type 0 where
  pub step : numbers.Step
  pub alone : numbers.step_by g w t a.id (act_of (alphabet_of g) a) rest r to ≡ step ∷ []
  pub is_step : IsStep g w t step f

-- the call letter with this number has such returns
abbrev pub IsReturnOf : Alphabet → ℕ → List ℕ → Type 0
IsReturnOf al call targets = BackIsActedFrom al targets (slice_get al.acts call)

-- the one step of a return with these targets from an open call by the letter with this number
abbrev pub IsStepBack : Graph → Reading → OpenCall → ℕ → List ℕ → Step → Type 0
IsStepBack g s c call targets f =
    (w : List Letter) (t : Tree) (letter : ℕ) (o : numbers.OpenCall) (calls : List numbers.OpenCall) (exit to : Position) → slice_get g.acts letter ≡ Some (back_act call targets) → IsCall g w o c → IsAt g w s.letters exit → IsAt g w (suc s.letters) to →
    (x : numbers.Step) × (numbers.steps_back g w t letter targets (o ∷ calls) exit to (slice_get g.acts call) ≡ x ∷ []) × IsStep g w t x f
