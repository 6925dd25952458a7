use Rattle.std.proofs.Common.{ap, map}
use Rattle.typed_tree.specs.TypedView as view
use Rattle.boogie_run.specs.BoogiePoints.Points.{Point}
use Rattle.boogie_run.specs.BoogiePoints.View.{point_of}
use Rattle.boogie_run.proofs.BoogiePoints.RoomLaws.{no_blocks}
use Rattle.boogie_run.proofs.boogie_points.starting.start_point.Goals as goal

pub returns-then-is_some-clause-room : goal.returns-then-is_some-clause-room
returns-then-is_some-clause-room c =
    no_blocks (map view.procedure c.args.program.now.procs) (point_of c.without_blocks.result) (ap (λ (p : Point). p.todo) c.without_blocks.ensures)
