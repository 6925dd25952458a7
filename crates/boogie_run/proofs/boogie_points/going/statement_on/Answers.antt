use Rattle.std.proofs.Common.{◌∙◌, List, ap, sym, refl, map, arith}
use Rattle.typed_tree.specs.declared.types.TProc.{TProc}
use Rattle.typed_tree.specs.declared.types.TStmt.{TStmt}
use Rattle.typed_tree.specs.TypedTree.{If, While}
use Rattle.typed_tree.specs.TypedView as view
use Rattle.boogie_run.specs.BoogiePoints.Points.{settled, broken}
use Rattle.boogie_run.specs.BoogiePoints.Stacks.{without_top}
use Rattle.boogie_run.specs.BoogiePoints.View.{todo_of, stack_of, point_of}
use Rattle.boogie_run.proofs.BoogiePoints.RoomLaws.{if_room, while_room, settled_at, broken_room}
use Rattle.boogie_run.proofs.BoogiePoints.EitherLaws.{room_either}
use Rattle.boogie_run.proofs.BoogiePoints.SeekLaws.{if_seen, while_seen, havoc_seen}
use Rattle.boogie_run.proofs.BoogiePoints.WayLaws.{while_way, havoc_way}
use Rattle.boogie_run.proofs.boogie_points.going.statement_on.Goals as goal

pub returns-in-If-clause-room : goal.returns-in-If-clause-room
returns-in-If-clause-room c =
    room_either (map view.procedure c.args.program.now.procs) c.branch_on.result (point_of c.args.point.now) (point_of c.branch_on.new.point) c.requires.room c.branch_on.ensures.kept
    (λ h. if_room (map view.procedure c.args.program.now.procs) (stack_of c.args.point.now.todo.items) (without_top (stack_of c.args.point.now.todo.items))
    (todo_of c.args.here) (todo_of c.past-after.result) (view.statement c.args.statement.now) (view.statements c.args.rest.now)
    c.in-If.field-0 (view.guard c.in-If.field-1) (view.statements c.deref.result.now) (view.statements c.deref-in-If.result.now) c.args.way (point_of c.branch_on.new.point)
    c.requires.room c.requires.stands (ap view.statements c.requires.first)
    (ap view.statement c.in-If.is ∙ if_seen c.in-If.field-0 c.in-If.field-1 c.in-If.then c.in-If.otherwise
    ∙ ap (λ (ss : List TStmt). If c.in-If.field-0 (view.guard c.in-If.field-1) (view.statements ss) (view.statements c.in-If.otherwise.items)) (sym c.deref.ensures.value)
    ∙ ap (λ (ss : List TStmt). If c.in-If.field-0 (view.guard c.in-If.field-1) (view.statements c.deref.result.now) (view.statements ss)) (sym c.deref-in-If.ensures.value))
    (rw c.procs.ensures at c.past-after.ensures.room) (c.branch_on.ensures.ok h))

pub returns-in-While-clause-ok : goal.returns-in-While-clause-ok
returns-in-While-clause-ok c =
    λ h. while_way (map view.procedure c.args.program.now.procs) (todo_of c.args.body) (todo_of c.args.here) (view.statement c.args.statement.now) (view.statements c.args.rest.now)
    (point_of c.args.point.now) (point_of c.loop_on.new.point) c.in-While.field-0 (view.guard c.in-While.field-1) c.deref-in-While.result.now c.in-While.conditions.items
    (view.statements c.deref-in-While-2.result.now) c.args.way
    (ap view.statement c.in-While.is ∙ while_seen c.in-While.field-0 c.in-While.field-1 c.in-While.conditions c.in-While.inside
    ∙ ap (λ (ss : List TStmt). While c.in-While.field-0 (view.guard c.in-While.field-1) (map view.invariant c.in-While.conditions.items) (view.statements ss)) (sym c.deref-in-While-2.ensures.value))
    c.deref-in-While.ensures.value c.requires.stands (ap view.statements c.requires.first)
    (c.loop_on.ensures.item h) (c.loop_on.ensures.inside h) (c.loop_on.ensures.behind h) c.requires.way

pub returns-in-While-clause-room : goal.returns-in-While-clause-room
returns-in-While-clause-room c =
    room_either (map view.procedure c.args.program.now.procs) c.loop_on.result (point_of c.args.point.now) (point_of c.loop_on.new.point) c.requires.room c.loop_on.ensures.kept
    (λ h. while_room (map view.procedure c.args.program.now.procs) (todo_of c.args.here) (view.statement c.args.statement.now) (view.statements c.args.rest.now)
    (point_of c.args.point.now) (point_of c.loop_on.new.point) c.in-While.field-0 (view.guard c.in-While.field-1) c.deref-in-While.result.now c.in-While.conditions.items
    (view.statements c.deref-in-While-2.result.now) c.args.way
    (ap view.statement c.in-While.is ∙ while_seen c.in-While.field-0 c.in-While.field-1 c.in-While.conditions c.in-While.inside
    ∙ ap (λ (ss : List TStmt). While c.in-While.field-0 (view.guard c.in-While.field-1) (map view.invariant c.in-While.conditions.items) (view.statements ss)) (sym c.deref-in-While-2.ensures.value))
    c.deref-in-While.ensures.value c.requires.room c.requires.stands (ap view.statements c.requires.first)
    (c.loop_on.ensures.item h) (c.loop_on.ensures.inside h) (c.loop_on.ensures.behind h))

pub returns-in-Break-clause-room : goal.returns-in-Break-clause-room
returns-in-Break-clause-room c =
    settled_at (map view.procedure c.args.program.now.procs) (broken (map view.procedure c.args.program.now.procs) c.in-Break.more (stack_of c.args.point.now.todo.items)) (point_of c.settle.new.point)
    (c.settle.ensures ∙ ap settled (c.leave_loops.ensures
    ∙ ap (λ (ps : List TProc). broken (map view.procedure ps) c.in-Break.more (stack_of c.args.point.now.todo.items)) c.procs-in-Break.ensures))
    (broken_room (map view.procedure c.args.program.now.procs) c.in-Break.more (stack_of c.args.point.now.todo.items) c.requires.room)

pub returns-in-Havoc-clause-ok : goal.returns-in-Havoc-clause-ok
returns-in-Havoc-clause-ok c =
    λ h. havoc_way (map view.procedure c.args.program.now.procs) (todo_of c.args.body) (todo_of c.args.here) (view.statement c.args.statement.now) (view.statements c.args.rest.now)
    (point_of c.args.point.now) (point_of c.havoc_on.new.point) c.in-Havoc.field-0 c.in-Havoc.columns.items c.len.result c.args.way
    (ap view.statement c.in-Havoc.is ∙ havoc_seen c.in-Havoc.field-0 c.in-Havoc.columns) (omega arith) c.requires.stands (ap view.statements c.requires.first)
    (c.havoc_on.ensures.item h) (c.havoc_on.ensures.behind h) c.requires.way

pub returns-in-Goto-clause-room : goal.returns-in-Goto-clause-room
returns-in-Goto-clause-room c =
    room_either (map view.procedure c.args.program.now.procs) c.jump.result (point_of c.args.point.now) (point_of c.jump.new.point) c.requires.room c.jump.ensures.kept c.jump.ensures.room
