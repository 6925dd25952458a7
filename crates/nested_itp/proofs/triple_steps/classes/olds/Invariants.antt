use Rattle.std.proofs.Common.{◌≡◌, ◌++◌, drop}
use Rattle.letter_acts.specs.Frames.{olds_from, olds_of}
use Rattle.nested_itp.proofs.triple_steps.classes.olds.Given as goal

abbrev pub invariant-loop-i : goal.invariant-loop-i
invariant-loop-i l = l.olds.items ++ olds_from l.i (drop l.i l.frame) ≡ olds_of l.frame
