use Rattle.std.proofs.Common.{◌≡◌, ◌+◌, drop}
use Rattle.std.specs.List.{prefix_len}
use Rattle.letter_acts.specs.Frames.{is_global}
use Rattle.letter_acts.proofs.checks.frames.count_globals.Given as goal

abbrev pub invariant-loop-i : goal.invariant-loop-i
invariant-loop-i l = l.i + prefix_len is_global (drop l.i l.frame) ≡ prefix_len is_global l.frame
