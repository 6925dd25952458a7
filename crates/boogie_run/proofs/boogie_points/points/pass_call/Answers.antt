use Rattle.std.proofs.Common.{◌∙◌, List, ap, map}
use Rattle.typed_tree.specs.declared.types.TProc.{TProc}
use Rattle.typed_tree.specs.TypedView as view
use Rattle.boogie_run.specs.BoogiePoints.Points.{settled, past_first}
use Rattle.boogie_run.specs.BoogiePoints.View.{stack_of}
use Rattle.boogie_run.proofs.BoogiePoints.RoomLaws.{passed_at}
use Rattle.boogie_run.proofs.boogie_points.points.pass_call.Goals as goal

pub returns-clause-room : goal.returns-clause-room
returns-clause-room c =
    passed_at (map view.procedure c.args.program.now.procs) (stack_of c.args.point.now.todo.items) _
    (c.settle.ensures ∙ ap settled c.pass.ensures
    ∙ ap (λ (procs : List TProc). settled (past_first (map view.procedure procs) (stack_of c.args.point.now.todo.items))) c.procs.ensures) c.requires.room
