use Rattle.std.proofs.Common.{◌≡◌, ◌++◌, drop}
use Rattle.lowered_graph.specs.LoweredSteps.Edges.{numbers_in}
use Rattle.trace_replay.proofs.told_choices.columns.column_numbers.Given as goal

abbrev pub invariant-loop-column : goal.invariant-loop-column
invariant-loop-column l = l.numbers.items ++ numbers_in l.frame (drop l.column-index l.columns) ≡ numbers_in l.frame l.columns
