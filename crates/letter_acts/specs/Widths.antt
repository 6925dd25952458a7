-- How many columns the rows of an act are over. Their numbers have 32 bits.
use Rattle.std.specs.Prelude.{ℕ, ◌+◌, ◌≤◌, ◌^◌, List, length, Option, None, Some, slice_get}
use Rattle.std.specs.List.{AllByRecursion}
use Rattle.letter_acts.specs.Acts.{PlainAct, inside_act, call_act, back_act, Alphabet, frame_of}
use Rattle.letter_acts.specs.Invariant.{inside_width, call_width, written_by}

-- those of a return from a call with this act: the callee's frame, the caller's frame, the written columns, the helpers of the call
abbrev pub back_width : Alphabet → List ℕ → Option PlainAct → ℕ
back_width al targets None = 0
back_width al targets (Some (inside_act p written helpers rows)) = 0
back_width al targets (Some (call_act caller callee helpers rows)) =
    length (frame_of al callee) + length (frame_of al caller) + length (written_by (frame_of al caller) targets) + helpers
back_width al targets (Some (back_act c more)) = 0

abbrev pub act_width : Alphabet → PlainAct → ℕ
act_width al (inside_act p written helpers rows) = inside_width (frame_of al p) written helpers
act_width al (call_act caller callee helpers rows) = call_width (frame_of al caller) (frame_of al callee) helpers
act_width al (back_act c targets) = back_width al targets (slice_get al.acts c)

-- the numbers of the columns of all acts fit
abbrev pub ActsFit : Alphabet → Type 0
ActsFit al = AllByRecursion (λ a. act_width al a ≤ 2 ^ 32) al.acts
