-- How many columns letters make.
use Rattle.std.specs.Prelude.{ℕ, ◌+◌, length, Option, None, Some, filter}
use Rattle.letter_acts.specs.Frames.{is_local}
use Rattle.letter_acts.specs.Acts.{PlainAct, inside_act, call_act, back_act, Alphabet, frame_of}
use Rattle.letter_acts.specs.FrameRows.Frames.{is_old}

-- a letter with this act: the written columns and the helpers; or an entry's locals, its helpers, and its old columns
abbrev pub columns_made : Alphabet → Option PlainAct → ℕ
columns_made al None = 0
columns_made al (Some (inside_act p written helpers rows)) = length written + helpers
columns_made al (Some (call_act caller callee helpers rows)) = helpers + (length (filter is_local (frame_of al callee)) + length (filter is_old (frame_of al callee)))
columns_made al (Some (back_act c targets)) = 0

-- the number behind the helpers of an inside letter with this act, which makes its columns from this number on
abbrev pub helpers_end : Option PlainAct → ℕ → ℕ
helpers_end None made = made
helpers_end (Some (inside_act p written helpers rows)) made = made + length written + helpers
helpers_end (Some (call_act caller callee helpers rows)) made = made
helpers_end (Some (back_act c targets)) made = made
