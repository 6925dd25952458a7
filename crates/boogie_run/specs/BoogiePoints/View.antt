-- Points of the code as contracts see them.
use Rattle.std.specs.Prelude.{List, map, reverse}
use Rattle.typed_tree.specs.TypedView.{expression, statements}
use Rattle.boogie_run.specs.declared.boogie_points.blocks.Todo.{Todo}
use Rattle.boogie_run.specs.declared.boogie_points.points.Stage.{Stage}
use Rattle.boogie_run.specs.declared.boogie_points.points.Stage.TheVariants as stages
use Rattle.boogie_run.specs.declared.boogie_points.points.Point.{Point}
use Rattle.boogie_run.specs.declared.boogie_points.actions.Action.{Action}
use Rattle.boogie_run.specs.declared.boogie_points.actions.Action.TheVariants as code
use Rattle.boogie_run.specs.BoogiePoints.Points as spec
use Rattle.boogie_run.specs.BoogiePoints.Told as told

abbrev pub todo_of : Todo → spec.Todo
todo_of t = record { rest = statements t.rest.now; of_loop = t.of_loop; id = t.id; at = t.at }

-- the blocks still to do, the innermost first, where it is the last of the list
unfoldable pub stack_of : List Todo → List spec.Todo
stack_of ts = map todo_of (reverse ts)

abbrev pub stage_of : Stage → spec.Stage
stage_of stages.Start = spec.Start
stage_of stages.Entry = spec.Entry
stage_of stages.Body = spec.Body
stage_of stages.Exit = spec.Exit

-- where a frame stands
abbrev pub point_of : Point → spec.Point
point_of p = record { stage = stage_of p.stage; todo = stack_of p.todo.items; part = p.part }

-- what an action tells
abbrev pub action_view : Action → told.Told
action_view (code.Check number span cond) = told.Check number span (expression cond.now)
action_view (code.Suppose cond) = told.Suppose (expression cond.now)
action_view (code.Demand number span cond args) = told.Demand number span (expression cond.now) (map expression args.now)
action_view (code.Write targets values) = told.Write targets.now (map expression values.now)
action_view (code.Guess column) = told.Guess column
action_view (code.Test cond) = told.Test (expression cond.now)
action_view (code.Pick ways) = told.Pick ways
action_view code.Jump = told.Jump
action_view (code.Enter callee args) = told.Enter callee (map expression args.now)
action_view (code.Keep callee args column) = told.Keep callee (map expression args.now) column
action_view (code.Grant callee args cond) = told.Grant callee (map expression args.now) (expression cond.now)
action_view (code.Finish callee args targets) = told.Finish callee (map expression args.now) targets.now
action_view code.Leave = told.Leave
