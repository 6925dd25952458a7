use Rattle.std.proofs.Common.{map}
use Rattle.typed_tree.specs.TypedView as view
use Rattle.boogie_run.specs.BoogiePoints.Room.{PointHasRoom}
use Rattle.boogie_run.specs.BoogiePoints.View.{point_of}
use Rattle.language_table.proofs.walks.show_steps.Given as goal

abbrev pub invariant-loop-way : goal.invariant-loop-way
invariant-loop-way l = PointHasRoom (map view.procedure l.program.procs) (point_of l.point)
