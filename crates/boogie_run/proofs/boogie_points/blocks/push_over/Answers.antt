use Rattle.std.proofs.Common.{[], arith, refl}
use Rattle.boogie_run.proofs.BoogiePoints.StackLaws.{stack_over, stack_push, stack_none, no_items}
use Rattle.boogie_run.proofs.boogie_points.blocks.push_over.Goals as goal

pub returns-then-count-gt0-clause-ok : goal.returns-then-count-gt0-clause-ok
returns-then-count-gt0-clause-ok c = λ _. rw c.in_ok-push.ensures.items (stack_over c.args.todo.now.items _ _ _ (omega arith) (λ e. omega arith))

pub returns-else-count-gt0-clause-ok : goal.returns-else-count-gt0-clause-ok
returns-else-count-gt0-clause-ok c =
    λ _. rw (c.in_ok-push.ensures.items, no_items c.args.todo.now.items (omega arith), stack_push [] c.args.inner, stack_none) refl
