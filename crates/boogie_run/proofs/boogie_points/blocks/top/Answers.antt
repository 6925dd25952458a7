use Rattle.std.proofs.Common.{◌∙◌, refl}
use Rattle.boogie_run.proofs.BoogiePoints.StackLaws.{stack_top}
use Rattle.boogie_run.proofs.boogie_points.blocks.top.Goals as goal

pub returns : goal.returns
returns c = rw (c.copied.ensures ∙ c.last.ensures.value) (stack_top c.args.todo.now _ refl)
