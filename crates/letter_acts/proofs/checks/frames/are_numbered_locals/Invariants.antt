use Rattle.std.proofs.Common.{◌≡◌, ◌↔◌}
use Rattle.letter_acts.specs.Frames.{locals_from}
use Rattle.letter_acts.specs.Checks.{infos}
use Rattle.letter_acts.proofs.LayoutLemmas.{LocalsLeft}
use Rattle.letter_acts.proofs.checks.frames.are_numbered_locals.Given as goal

abbrev pub invariant-loop-i : goal.invariant-loop-i
invariant-loop-i l = LocalsLeft l.frame l.i ↔ (l.frame ≡ locals_from 0 (infos l.frame))
