use Rattle.std.proofs.Common.{◌∙◌, ap, sym, map}
use Rattle.typed_tree.specs.TypedView as view
use Rattle.boogie_run.specs.BoogiePoints.Stacks.{without_top}
use Rattle.boogie_run.specs.BoogiePoints.View.{todo_of, stack_of, point_of}
use Rattle.boogie_run.proofs.BoogiePoints.ToldLaws.{stack_told}
use Rattle.boogie_run.proofs.boogie_points.acting.body_action.Goals as goal

pub returns-in-Some-split : goal.returns-in-Some-split
returns-in-Some-split c =
    λ body first start. c.statement_action.ensures
    ∙ sym (stack_told (map view.procedure c.args.procs.now) body first start (stack_of c.args.point.now.todo.items) (without_top (stack_of c.deref.result.now)) (todo_of c.in-Some.here)
    (view.statement c.in-Some-split.statement.now) _ (point_of c.args.point.now)
    (ap stack_of (sym c.deref.ensures.value) ∙ c.in-Some.ensures) (ap view.statements c.in-Some-split.ensures))
