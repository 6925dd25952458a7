use Rattle.std.proofs.Common.{◌≡◌, ◌++◌}
use Rattle.letter_acts.specs.FrameRows.Rows.{columns_from}
use Rattle.letter_acts.proofs.frame_rows.columns.add_columns.Given as goal

abbrev pub invariant-loop-i : goal.invariant-loop-i
invariant-loop-i l = l.columns.items ≡ l.initial.columns.items ++ columns_from l.from l.i
