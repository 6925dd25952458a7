use Rattle.std.proofs.Common.{◌≡◌, take}
use Rattle.letter_acts.specs.Frames.{olds_of}
use Rattle.triple_rows.proofs.frames.olds.Given as goal

abbrev pub invariant-loop-i : goal.invariant-loop-i
invariant-loop-i l = l.numbers.items ≡ olds_of (take l.i l.frame)
