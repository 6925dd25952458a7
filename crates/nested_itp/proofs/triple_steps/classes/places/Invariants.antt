use Rattle.std.proofs.Common.{◌≡◌, ◌++◌, drop}
use Rattle.letter_acts.specs.Frames.{places}
use Rattle.nested_itp.specs.TripleSteps.Ties.Classes.{is_of}
use Rattle.nested_itp.proofs.triple_steps.classes.places.Given as goal

abbrev pub invariant-loop-i : goal.invariant-loop-i
invariant-loop-i l = l.places.items ++ places (is_of l.class) l.i (drop l.i l.frame) ≡ places (is_of l.class) 0 l.frame
