-- The procedures of return letters.
use Rattle.std.specs.Prelude.{ℕ, List, Option, None, Some, slice_get}
use Rattle.letter_acts.specs.Acts.{PlainAct, inside_act, call_act, back_act}

-- the caller and the callee of a call letter, by its act
abbrev pub call_scopes : Option PlainAct → Option (ℕ × ℕ)
call_scopes None = None
call_scopes (Some (inside_act p written helpers rows)) = None
call_scopes (Some (call_act caller callee helpers rows)) = Some (caller, callee)
call_scopes (Some (back_act c targets)) = None

-- those of the call letter of a return letter, by its act
abbrev pub back_scopes : List PlainAct → Option PlainAct → Option (ℕ × ℕ)
back_scopes acts None = None
back_scopes acts (Some (inside_act p written helpers rows)) = None
back_scopes acts (Some (call_act caller callee helpers rows)) = None
back_scopes acts (Some (back_act c targets)) = call_scopes (slice_get acts c)
