use Rattle.std.proofs.Common.{◌≡◌, take}
use Rattle.letter_acts.specs.Frames.{places}
use Rattle.letter_acts.specs.FrameRows.Frames.{is_of}
use Rattle.letter_acts.proofs.frame_rows.frames.numbers_of.Given as goal

abbrev pub invariant-loop-i : goal.invariant-loop-i
invariant-loop-i l = l.numbers.items ≡ places (is_of l.class) 0 (take l.i l.frame)
