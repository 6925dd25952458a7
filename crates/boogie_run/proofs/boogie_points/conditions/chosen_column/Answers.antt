use Rattle.std.proofs.Common.{arith}
use Rattle.typed_tree.specs.TypedView as view
use Rattle.boogie_run.proofs.BoogiePoints.ChoiceLaws.{chosen_global, chosen_result, nothing_chosen}
use Rattle.boogie_run.proofs.boogie_points.conditions.chosen_column.Goals as goal

pub returns-then-number-globals : goal.returns-then-number-globals
returns-then-number-globals c =
    chosen_global (view.procedure c.args.callee.now) c.args.number c.len-globals.result c.index.result.now (omega arith) c.if-number-globals.true c.index.ensures

pub returns-then-done-callee : goal.returns-then-done-callee
returns-then-done-callee c =
    chosen_result (view.procedure c.args.callee.now) c.args.number c.len-globals.result (omega arith) c.if-number-globals.false c.if-done-callee.true

pub returns-else-done-callee : goal.returns-else-done-callee
returns-else-done-callee c =
    nothing_chosen (view.procedure c.args.callee.now) c.args.number c.len-globals.result (omega arith) c.if-number-globals.false c.if-done-callee.false
