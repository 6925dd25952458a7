use Rattle.std.proofs.Common.{◌≡◌, take}
use Rattle.letter_acts.specs.FrameRows.Rows.{types_at}
use Rattle.letter_acts.proofs.frame_rows.frames.types_at.Given as goal

abbrev pub invariant-loop-column : goal.invariant-loop-column
invariant-loop-column l = l.types.items ≡ types_at l.frame (take l.column-index l.columns)
