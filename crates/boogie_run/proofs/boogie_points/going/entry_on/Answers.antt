use Rattle.boogie_run.specs.BoogiePoints.View.{stack_of, point_of}
use Rattle.boogie_run.proofs.BoogiePoints.RoomLaws.{settled_at}
use Rattle.boogie_run.proofs.boogie_points.going.entry_on.Goals as goal

pub returns-clause-room : goal.returns-clause-room
returns-clause-room c = λ procs h. settled_at procs (stack_of c.args.point.now.todo.items) (point_of c.settle.new.point) c.settle.ensures h
