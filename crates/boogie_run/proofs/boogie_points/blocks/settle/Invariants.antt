use Rattle.std.proofs.Common.{◌≡◌, length}
use Rattle.boogie_run.specs.BoogiePoints.Points.{settled}
use Rattle.boogie_run.specs.BoogiePoints.View.{stack_of}
use Rattle.boogie_run.proofs.boogie_points.blocks.settle.Given as goal

abbrev pub invariant-loop-last : goal.invariant-loop-last
invariant-loop-last l = settled (stack_of l.todo.items) ≡ settled (stack_of l.fn.todo.items)

abbrev pub decreases-loop-last : goal.decreases-loop-last
decreases-loop-last l = length (stack_of l.todo.items)
