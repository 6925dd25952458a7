use Rattle.std.proofs.Common.{◌≡◌, take}
use Rattle.std.specs.Prelude.{filter}
use Rattle.letter_acts.specs.FrameRows.Rows.{types_of}
use Rattle.letter_acts.specs.FrameRows.Frames.{is_of}
use Rattle.letter_acts.proofs.frame_rows.frames.types_in.Given as goal

abbrev pub invariant-loop-i : goal.invariant-loop-i
invariant-loop-i l = l.types.items ≡ types_of (filter (is_of l.class) (take l.i l.frame))
