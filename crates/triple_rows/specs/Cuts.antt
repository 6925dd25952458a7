-- How many columns the system of a triple has, and at which of them a refutation cuts.
use Rattle.std.specs.Prelude.{ℕ, ◌<◌, Option, None, Some, slice_get}
use Rattle.letter_acts.specs.Acts.{PlainAct, inside_act, call_act, back_act, Alphabet, frame_of}
use Rattle.letter_acts.specs.Invariant.{inside_width, call_width}
use Rattle.letter_acts.specs.Widths.{back_width}
use Rattle.farkas_check.specs.Nodes.{PlainNode, leaf, cut, cases}
use Rattle.triple_rows.specs.declared.triples.Triple.{Triple}
use Rattle.triple_rows.specs.declared.triples.Triple.TheVariants.{Inside, Call, Back}

-- ---- how many columns the system of a triple has

abbrev pub inside_columns : Alphabet → Option PlainAct → ℕ
inside_columns al None = 0
inside_columns al (Some (inside_act p written helpers rows)) = inside_width (frame_of al p) written helpers
inside_columns al (Some (call_act caller callee helpers rows)) = 0
inside_columns al (Some (back_act c targets)) = 0

abbrev pub call_columns : Alphabet → Option PlainAct → ℕ
call_columns al None = 0
call_columns al (Some (inside_act p written helpers rows)) = 0
call_columns al (Some (call_act caller callee helpers rows)) = call_width (frame_of al caller) (frame_of al callee) helpers
call_columns al (Some (back_act c targets)) = 0

abbrev pub back_columns : Alphabet → Option PlainAct → ℕ
back_columns al None = 0
back_columns al (Some (inside_act p written helpers rows)) = 0
back_columns al (Some (call_act caller callee helpers rows)) = 0
back_columns al (Some (back_act c targets)) = back_width al targets (slice_get al.acts c)

-- those of the frames, the written ones, and the helpers
abbrev pub columns_of : Alphabet → Triple → ℕ
columns_of al (Inside from letter to) = inside_columns al (slice_get al.acts letter)
columns_of al (Call from letter to) = call_columns al (slice_get al.acts letter)
columns_of al (Back exit before letter to) = back_columns al (slice_get al.acts letter)

-- ---- cuts

-- a cut is at one of so many columns
abbrev pub IsCutWithin : ℕ → PlainNode → Type 0
IsCutWithin columns (leaf parts) = Unit {0}
IsCutWithin columns (cut c k) = c < columns
IsCutWithin columns (cases n) = Unit {0}
