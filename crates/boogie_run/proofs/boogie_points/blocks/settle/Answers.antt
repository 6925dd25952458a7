use Rattle.std.proofs.Common.{◌∙◌, ap, sym, arith}
use Rattle.std.proofs.lemmas.Bool.Decides.{nat_tests}
use Rattle.boogie_run.specs.BoogiePoints.Stacks.{without_top}
use Rattle.boogie_run.specs.BoogiePoints.View.{todo_of, stack_of}
use Rattle.boogie_run.proofs.BoogiePoints.LabelLaws.{stands}
use Rattle.boogie_run.proofs.boogie_points.blocks.settle.Goals as goal

pub returns-then-not-is_empty : goal.returns-then-not-is_empty
returns-then-not-is_empty c =
    sym c.loop-last.invariant
    ∙ stands (stack_of c.loop-last.todo.items) (without_top (stack_of c.deref.result.now)) _ (todo_of c.in-Some.last) c.past_labels-rest.result.now
    (ap stack_of (sym c.deref.ensures.value) ∙ c.in-Some.ensures) (grind (arith, nat_tests, c.is_empty.ensures, c.if-not-is_empty.true))
    (c.past_labels-rest.ensures.settled c.in-Some.last.of_loop c.in-Some.last.id c.in-Some.last.at _ _)
    c.put_top.ensures
