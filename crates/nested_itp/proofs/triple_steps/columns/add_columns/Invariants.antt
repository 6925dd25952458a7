use Rattle.std.proofs.Common.{◌≡◌, ◌++◌}
use Rattle.letter_acts.specs.FrameRows.Rows.{columns_from}
use Rattle.nested_itp.proofs.triple_steps.columns.add_columns.Given as goal

abbrev pub invariant-loop-i : goal.invariant-loop-i
invariant-loop-i l = l.made.items ≡ l.initial.made.items ++ columns_from l.first l.i
