use Rattle.std.proofs.Common.{◌≡◌, length, map}
use Rattle.std.specs.List.{AllByRecursion}
use Rattle.typed_tree.specs.TypedView as view
use Rattle.boogie_run.specs.BoogiePoints.Points.{broken}
use Rattle.boogie_run.specs.BoogiePoints.Room.{HasRoom}
use Rattle.boogie_run.specs.BoogiePoints.View.{stack_of}
use Rattle.boogie_run.proofs.boogie_points.blocks.leave_loops.Given as goal

abbrev pub invariant-loop-last : goal.invariant-loop-last
invariant-loop-last l = record {
  broken : broken (map view.procedure l.procs) l.more (stack_of l.todo.items) ≡ broken (map view.procedure l.procs) l.fn.more (stack_of l.fn.todo.items);
  room : AllByRecursion (HasRoom (map view.procedure l.procs)) (stack_of l.todo.items);
}

abbrev pub decreases-loop-last : goal.decreases-loop-last
decreases-loop-last l = length (stack_of l.todo.items)
