use Rattle.std.proofs.Common.{◌≤◌, length}
use Rattle.letter_acts.proofs.LayoutLemmas.{OldsLeft}
use Rattle.letter_acts.proofs.checks.frames.count_olds.Given as goal

abbrev pub invariant-loop-i : goal.invariant-loop-i
invariant-loop-i l = (l.count ≤ length l.frame) × OldsLeft l.heads l.frame l.count l.i
