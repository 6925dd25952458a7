use Rattle.std.proofs.Common.{◌≡◌}
use Rattle.std.specs.List.{AllByRecursion}
use Rattle.math_facts.specs.Fits.{Fits}
use Rattle.lin_rows.specs.Points.{point_of}
use Rattle.path_rows.specs.Solutions.{read}
use Rattle.letter_acts.specs.FrameRows.Rows.{columns_from}
use Rattle.trace_replay.proofs.told_choices.values.values_from.Given as goal

abbrev pub invariant-loop-i : goal.invariant-loop-i
invariant-loop-i l = record {
  value : l.values.items ≡ read (point_of l.point) (columns_from l.first l.i);
  fits : AllByRecursion Fits l.point → AllByRecursion Fits l.values.items;
}
