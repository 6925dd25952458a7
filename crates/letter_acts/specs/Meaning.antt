-- What letters allow: which states of frames may stand before and after an inside act, a call and a return.
use Rattle.std.specs.Prelude.{◌≡◌, ℕ, ◌<◌, ℤ, List, ◌++◌, map, length, take, drop, Option, None, Some, slice_get}
use Rattle.lin_rows.specs.Rows.{LinearRow}
use Rattle.letter_acts.specs.Frames.{Columns, IsState, globals_of, constants_of, variables_of, result_columns, olds_of}
use Rattle.letter_acts.specs.Acts.{PlainAct, inside_act, call_act, back_act, Alphabet, frame_of}
use Rattle.letter_acts.specs.Values.{picked, put_all, RowsHold}

-- An inside act leads from s to t: new values are written into the written columns, and with them and some helpers
-- the rows hold.
pub record InsideLeads (frame : Columns) (written : List ℕ) (helpers : ℕ) (rows : List LinearRow) (s t : List ℤ) : Type 0 where
  pub before : IsState frame s
  pub after : IsState frame t
  pub news : List ℤ
  pub as_many : length news ≡ length written
  pub put : t ≡ put_all s written news
  pub rows_hold : RowsHold (s ++ news) helpers rows

-- a callee's state at its entry: the caller's constants and globals, their values again as the old ones, and its own locals
abbrev pub entry_values : Columns → List ℤ → List ℤ → List ℤ
entry_values callee s locals = take (length (globals_of callee)) s ++ (picked s (variables_of callee) ++ locals)

-- A call leads from the caller's state s to the callee's state t: t is an entry from s, its locals are free but for the
-- rows, and with some helpers the rows hold over both states.
pub record CallLeads (caller callee : Columns) (helpers : ℕ) (rows : List LinearRow) (s t : List ℤ) : Type 0 where
  pub before : IsState caller s
  pub after : IsState callee t
  pub locals : List ℤ
  pub entered : t ≡ entry_values callee s locals
  pub rows_hold : RowsHold (s ++ t) helpers rows

-- The caller's state after a return: the constants and globals are those of the exit, the rest is as before the call, and
-- into each target goes the callee's result in its place, also where the target is a global.
abbrev pub returned_values : Columns → Columns → List ℕ → List ℤ → List ℤ → List ℤ
returned_values caller callee targets exit before =
    put_all (take (length (globals_of caller)) exit ++ drop (length (globals_of caller)) before) targets (picked exit (result_columns callee))

-- A return leads from the callee's state at its exit and the caller's state before the call to the caller's state after:
-- the exit's constants and old columns are the constants and globals before the call, the rows of the call hold with some
-- helpers between the state before it and the exit, and the state after is returned from both.
pub record BackLeads (caller callee : Columns) (helpers : ℕ) (rows : List LinearRow) (targets : List ℕ) (exit before after : List ℤ) : Type 0 where
  pub at_exit : IsState callee exit
  pub at_call : IsState caller before
  pub at_end : IsState caller after
  pub constants : picked exit (constants_of callee) ≡ picked before (constants_of callee)
  pub olds : picked exit (map (λ o. o.0) (olds_of callee)) ≡ picked before (map (λ o. o.1) (olds_of callee))
  pub rows_hold : RowsHold (before ++ exit) helpers rows
  pub returned : after ≡ returned_values caller callee targets exit before

-- a state of the frame of a procedure
pub record Situation : Type 0 where
  pub proc : ℕ
  pub values : List ℤ

-- the situation is in procedure p, which exists
abbrev pub IsIn : Alphabet → ℕ → Situation → Type 0
IsIn al p s = (s.proc ≡ p) × (p < length al.frames)

-- an inside act leads from s to t, both in its procedure
abbrev pub ActInside : Alphabet → Option PlainAct → Situation → Situation → Type 0
ActInside al (Some (inside_act p written helpers rows)) s t =
    IsIn al p s × IsIn al p t × InsideLeads (frame_of al p) written helpers rows s.values t.values
ActInside al act s t = ⊥

-- a call act leads from s in the caller to t in the callee
abbrev pub ActCalls : Alphabet → Option PlainAct → Situation → Situation → Type 0
ActCalls al (Some (call_act caller callee helpers rows)) s t =
    IsIn al caller s × IsIn al callee t × CallLeads (frame_of al caller) (frame_of al callee) helpers rows s.values t.values
ActCalls al act s t = ⊥

-- a return with these targets leads back from a call with this act
abbrev pub ReturnsFrom : Alphabet → List ℕ → Option PlainAct → Situation → Situation → Situation → Type 0
ReturnsFrom al targets (Some (call_act caller callee helpers rows)) exit before after =
    IsIn al callee exit × IsIn al caller before × IsIn al caller after ×
    BackLeads (frame_of al caller) (frame_of al callee) helpers rows targets exit.values before.values after.values
ReturnsFrom al targets act exit before after = ⊥

-- a return act leads from the exit in the callee, and the situation before the call in the caller, to one in the caller
abbrev pub ActReturns : Alphabet → Option PlainAct → Situation → Situation → Situation → Type 0
ActReturns al (Some (back_act c targets)) exit before after = ReturnsFrom al targets (slice_get al.acts c) exit before after
ActReturns al act exit before after = ⊥
