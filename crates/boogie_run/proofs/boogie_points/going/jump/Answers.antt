use Rattle.std.proofs.Common.{◌∙◌, ap, sym, map}
use Rattle.typed_tree.specs.TypedView as view
use Rattle.boogie_run.specs.BoogiePoints.View.{todo_of, stack_of}
use Rattle.boogie_run.proofs.BoogiePoints.RoomLaws.{jump_room}
use Rattle.boogie_run.proofs.BoogiePoints.StackLaws.{stack_none}
use Rattle.boogie_run.proofs.BoogiePoints.ToldLaws.{past_none}
use Rattle.boogie_run.proofs.BoogiePoints.WayLaws.{jump_way, no_jump}
use Rattle.boogie_run.proofs.boogie_points.going.jump.Goals as goal

pub returns-in_default-clause-ok : goal.returns-in_default-clause-ok
returns-in_default-clause-ok c =
    λ _. no_jump (map view.procedure c.args.program.now.procs) (view.statements c.args.body.rest.now) c.args.body.id c.args.body.at c.args.labels.now c.args.way _
    (past_none c.args.labels.now c.args.way c.in_default.ensures) c.requires.way c.leave.ensures

pub returns-clause-ok : goal.returns-clause-ok
returns-clause-ok c =
    λ _. jump_way (map view.procedure c.args.program.now.procs) (view.statements c.args.body.rest.now) c.args.body.id c.args.body.at c.args.labels.now c.args.way c.in-Some.label
    _ _ _ _ (sym c.in-Some.ensures) (ap stack_of c.new-todo.ensures.items ∙ stack_none) (rw c.procs.ensures at c.in_ok-_found.ensures) c.settle.ensures

pub returns-clause-room : goal.returns-clause-room
returns-clause-room c =
    λ _. jump_room (map view.procedure c.args.program.now.procs) c.in-Some.label (todo_of c.args.body) _ _ _ _ c.requires.body
    (ap stack_of c.new-todo.ensures.items ∙ stack_none) (rw c.procs.ensures at c.in_ok-_found.ensures) c.settle.ensures
