use Rattle.std.proofs.Common.{◌↔◌, drop}
use Rattle.letter_acts.specs.Frames.{ConstantsFirst}
use Rattle.letter_acts.specs.Checks.{infos, ConstantsLeft}
use Rattle.letter_acts.proofs.checks.frames.constants_stand_first.Given as goal

abbrev pub invariant-loop-i : goal.invariant-loop-i
invariant-loop-i l = ConstantsLeft l.changing (infos (drop l.i l.frame)) ↔ ConstantsFirst (infos l.frame)
