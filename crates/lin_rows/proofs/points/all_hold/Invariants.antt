use Rattle.std.proofs.Common.{take}
use Rattle.std.specs.List.{AllByRecursion}
use Rattle.lin_rows.specs.Rows.{Holds}
use Rattle.lin_rows.specs.Points.{point_of}
use Rattle.lin_rows.proofs.points.all_hold.Given as goal

abbrev pub invariant-loop-row : goal.invariant-loop-row
invariant-loop-row l = AllByRecursion (Holds (point_of l.point)) (take l.row-index l.rows)
