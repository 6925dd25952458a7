use Rattle.std.proofs.Common.{map, ap, ◌∙◌}
use Rattle.boogie_tree.specs.View as view
use Rattle.boogie_tree.proofs.Branches.{conditional_printed, loop_printed}
use Rattle.boogie_tree.proofs.Seen.{if_seen, while_seen}
use Rattle.boogie_tree.proofs.printing.statements.+statements.Goals as goal

pub statement-returns-in_ok-block-in-If-2 : goal.statement-returns-in_ok-block-in-If-2
statement-returns-in_ok-block-in-If-2 t c =
    conditional_printed _ _ _ _ c.in-If.field-0 _ (view.statements c.in-If.then.items) (view.statements c.in-If.otherwise.items) _ _ _ _ _ _ _ _ _
    (ap view.statement c.in-If.is ∙ if_seen c.in-If.field-0 c.in-If.guard c.in-If.then c.in-If.otherwise)
    c.in_ok-inner-in-If.ensures
    c.in_ok-guard_line-in-If.ensures
    (ap view.statements c.deref-in-If.ensures.value)
    c.in_ok-block-in-If.ensures
    (ap view.statements c.deref-in-If-2.ensures.value)
    c.in_ok-else_line-in-If.ensures
    (ap view.statements c.deref-in-If-3.ensures.value)
    c.in_ok-block-in-If-2.ensures
    c.plain_line.ensures

pub statement-returns-in_ok-block-in-While : goal.statement-returns-in_ok-block-in-While
statement-returns-in_ok-block-in-While t c =
    loop_printed _ _ _ _ c.in-While.field-0 _ (map view.invariant c.in-While.invariants.items) _ (view.statements c.in-While.body.items) _ _ _ _ _
    (ap view.statement c.in-While.is ∙ while_seen c.in-While.field-0 c.in-While.guard c.in-While.invariants c.in-While.body)
    c.in_ok-inner-in-While.ensures
    (ap (map view.invariant) c.deref-in-While.ensures.value)
    c.in_ok-loop_head-in-While.ensures
    (ap view.statements c.deref-in-While-2.ensures.value)
    c.in_ok-block-in-While.ensures
    c.plain_line-in-While.ensures
