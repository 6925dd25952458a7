use Rattle.std.proofs.Common.{◌≡◌, ◌++◌, drop}
use Rattle.letter_acts.specs.Frames.{old_columns}
use Rattle.icfg_lower.proofs.program_layout.frames.add_olds.Given as goal

abbrev pub invariant-loop-number : goal.invariant-loop-number
invariant-loop-number l = l.columns.items ++ old_columns l.number (drop l.number l.globals) ≡ l.fn.columns.items ++ old_columns 0 l.globals
