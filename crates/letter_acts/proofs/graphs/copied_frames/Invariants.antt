use Rattle.std.proofs.Common.{◌≡◌, take}
use Rattle.letter_acts.specs.Acts.{plain_frames}
use Rattle.letter_acts.proofs.graphs.copied_frames.Given as goal

abbrev pub invariant-loop-frame : goal.invariant-loop-frame
invariant-loop-frame l = plain_frames l.copies.items ≡ plain_frames (take l.frame-index l.frames.items)
