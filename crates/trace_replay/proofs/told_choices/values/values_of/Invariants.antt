use Rattle.std.proofs.Common.{◌≡◌, ◌++◌, drop}
use Rattle.std.specs.List.{AllByRecursion}
use Rattle.math_facts.specs.Fits.{Fits}
use Rattle.lin_rows.specs.Points.{point_of}
use Rattle.path_rows.specs.Solutions.{read}
use Rattle.trace_replay.proofs.told_choices.values.values_of.Given as goal

abbrev pub invariant-loop-column : goal.invariant-loop-column
invariant-loop-column l = record {
  value : l.values.items ++ read (point_of l.point) (drop l.column-index l.columns) ≡ read (point_of l.point) l.columns;
  fits : AllByRecursion Fits l.point → AllByRecursion Fits l.values.items;
}
