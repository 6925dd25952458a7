use Rattle.std.proofs.Common.{◌≡◌, ◌++◌, drop}
use Rattle.letter_acts.specs.Frames.{locals_from}
use Rattle.icfg_lower.proofs.program_layout.frames.add_locals.Given as goal

abbrev pub invariant-loop-number : goal.invariant-loop-number
invariant-loop-number l = l.columns.items ++ locals_from l.number (drop l.number l.locals) ≡ l.fn.columns.items ++ locals_from 0 l.locals
