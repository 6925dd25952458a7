use Rattle.std.proofs.Common.{arith, refl}
use Rattle.boogie_run.proofs.BoogiePoints.StackLaws.{stack_put, stack_none, no_items}
use Rattle.boogie_run.proofs.boogie_points.blocks.put_top.Goals as goal

pub returns-then-count-gt0 : goal.returns-then-count-gt0
returns-then-count-gt0 c = stack_put _ _ _ (omega arith)

pub returns-else-count-gt0 : goal.returns-else-count-gt0
returns-else-count-gt0 c = rw (no_items c.args.todo.now.items (omega arith), stack_none) refl
