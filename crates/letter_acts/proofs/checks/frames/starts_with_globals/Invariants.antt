use Rattle.std.proofs.Common.{◌≡◌, ◌↔◌, ◌++◌, length, drop}
use Rattle.letter_acts.specs.Frames.{globals_from}
use Rattle.letter_acts.specs.Checks.{infos}
use Rattle.letter_acts.proofs.LayoutLemmas.{GlobalsLeft}
use Rattle.letter_acts.proofs.checks.frames.starts_with_globals.Given as goal

abbrev pub invariant-loop-i : goal.invariant-loop-i
invariant-loop-i l = GlobalsLeft l.heads l.frame (drop (length l.heads) l.frame) l.i ↔ (l.frame ≡ globals_from 0 (infos l.heads) ++ drop (length l.heads) l.frame)
