-- Acts and the alphabet: what the letters stand for.
use Rattle.std.specs.Prelude.{ℕ, Bool, false, List, [], map, Option, None, Some, unwrap_or, slice_get, if◌then◌else◌}
use Rattle.lin_rows.specs.Rows.{LinearRow}
use Rattle.nwa_base.specs.declared.letters.Kind.{Kind}
use Rattle.nwa_base.specs.declared.letters.Kind.TheVariants as kinds
use Rattle.nwa_base.specs.declared.letters.Letter.{Letter}
use Rattle.nwa_base.specs.Letters.{same_letter}
use Rattle.letter_acts.specs.declared.acts.Act.{Act}
use Rattle.letter_acts.specs.declared.acts.Act.TheVariants.{Inside, Call, Back}
use Rattle.letter_acts.specs.declared.frames.Frame.{Frame}
use Rattle.letter_acts.specs.Frames.{Columns}

-- an act as plain data
pub data PlainAct : Type 0 where
  -- the procedure, the written columns, how many helpers, and the rows
  inside_act : ℕ → List ℕ → ℕ → List LinearRow → PlainAct
  -- the caller, the callee, how many helpers, and the rows
  call_act : ℕ → ℕ → ℕ → List LinearRow → PlainAct
  -- the call letter, and the targets
  back_act : ℕ → List ℕ → PlainAct

abbrev pub plain_act : Act → PlainAct
plain_act (Inside p written helpers rows coarse) = inside_act p written.items helpers rows.items
plain_act (Call caller callee helpers rows coarse) = call_act caller callee helpers rows.items
plain_act (Back c targets) = back_act c targets.items

-- whether an act is marked as coarse: its rows leave a product free; a return's never is
abbrev pub mark_of : Act → Bool
mark_of (Inside p written helpers rows coarse) = coarse
mark_of (Call caller callee helpers rows coarse) = coarse
mark_of (Back c targets) = false

-- acts as plain data
abbrev pub plain_acts : List Act → List PlainAct
plain_acts acts = map plain_act acts

-- the marks of acts, one for each
abbrev pub marks_of : List Act → List Bool
marks_of acts = map mark_of acts

-- frames as lists of columns
abbrev pub plain_frames : List Frame → List Columns
plain_frames frames = map (λ f. f.columns.items) frames

-- what the letters of an automaton stand for: an act for each number, and a frame for each procedure
pub record Alphabet : Type 0 where
  pub acts : List PlainAct
  pub frames : List Columns

-- the frame of a procedure; without columns where there is no such procedure
abbrev pub frame_of : Alphabet → ℕ → Columns
frame_of al p = unwrap_or (slice_get al.frames p) []

-- the kind of the letters with this act
abbrev pub kind_of : PlainAct → Kind
kind_of (inside_act p written helpers rows) = kinds.Inside
kind_of (call_act caller callee helpers rows) = kinds.Call
kind_of (back_act c targets) = kinds.Back

-- the call letter that a letter with this act names: that of a return, else 0
abbrev pub call_of : PlainAct → ℕ
call_of (back_act c targets) = c
call_of act = 0

-- the letter of the alphabet with this number and act
abbrev pub letter_of : ℕ → PlainAct → Letter
letter_of n act = record { id = n; kind = kind_of act; call = call_of act }

-- the act with the letter's number, where it makes that very letter
abbrev pub named_act : Letter → Option PlainAct → Option PlainAct
named_act a None = None
named_act a (Some act) = if same_letter a (letter_of a.id act) then Some act else None

-- the act of a letter, None where the letter is none of the alphabet
abbrev pub act_of : Alphabet → Letter → Option PlainAct
act_of al a = named_act a (slice_get al.acts a.id)
