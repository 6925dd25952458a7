use Rattle.std.proofs.Common.{◌≡◌, ◌++◌, drop}
use Rattle.letter_acts.specs.Frames.{olds_from, olds_of}
use Rattle.icfg_lower.proofs.program_walk.starting.old_columns.Given as goal

abbrev pub invariant-loop-number : goal.invariant-loop-number
invariant-loop-number l = l.found.items ++ olds_from l.number (drop l.number l.frame.columns.items) ≡ olds_of l.frame.columns.items
