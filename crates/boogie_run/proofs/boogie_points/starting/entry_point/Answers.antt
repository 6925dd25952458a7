use Rattle.std.proofs.Common.{ap, map}
use Rattle.typed_tree.specs.TypedView as view
use Rattle.boogie_run.specs.BoogiePoints.Points.{Point}
use Rattle.boogie_run.specs.BoogiePoints.View.{point_of}
use Rattle.boogie_run.proofs.BoogiePoints.RoomLaws.{no_blocks}
use Rattle.boogie_run.proofs.boogie_points.starting.entry_point.Goals as goal

pub returns-in_default-clause-room : goal.returns-in_default-clause-room
returns-in_default-clause-room c =
    no_blocks (map view.procedure c.args.program.now.procs) (point_of c.without_blocks-point.result) (ap (λ (p : Point). p.todo) c.without_blocks-point.ensures)

pub returns-in_default-body_of-clause-room : goal.returns-in_default-body_of-clause-room
returns-in_default-body_of-clause-room c =
    no_blocks (map view.procedure c.args.program.now.procs) (point_of c.without_blocks-point.result) (ap (λ (p : Point). p.todo) c.without_blocks-point.ensures)

pub returns-clause-room : goal.returns-clause-room
returns-clause-room c =
    c.enter_body.ensures.room (map view.procedure c.args.program.now.procs) c.in-Some-body_of.ensures.room
    (no_blocks (map view.procedure c.args.program.now.procs) (point_of c.without_blocks-point.result) (ap (λ (p : Point). p.todo) c.without_blocks-point.ensures))
