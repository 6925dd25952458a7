use Rattle.std.proofs.Common.{◌≡◌, ◌++◌, drop}
use Rattle.letter_acts.specs.Frames.{globals_from}
use Rattle.icfg_lower.proofs.program_layout.frames.add_globals.Given as goal

abbrev pub invariant-loop-number : goal.invariant-loop-number
invariant-loop-number l = l.columns.items ++ globals_from l.number (drop l.number l.globals) ≡ l.fn.columns.items ++ globals_from 0 l.globals
