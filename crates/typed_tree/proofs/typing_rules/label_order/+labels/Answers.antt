use Rattle.std.proofs.Common.{ap, ◌∙◌}
use Rattle.typed_tree.specs.TypedView as view
use Rattle.typed_tree.proofs.TypingRules.StatementParts.{if_seen}
use Rattle.typed_tree.proofs.TypingRules.LabelLaws.{each_counted, each_uncounted, branch_counted, branch_uncounted}
use Rattle.typed_tree.proofs.typing_rules.label_order.+labels.Goals as goal

pub block_labels-returns-in_err-reached : goal.block_labels-returns-in_err-reached
block_labels-returns-in_err-reached t c =
    each_uncounted c.args.listed.now c.loop-counted.counted-index c.counted-item.result c.loop-counted-test.true c.counted-item.is
    c.loop-counted.reached _ _ c.loop-counted.invariant c.in_err-reached.ensures c.from_residual.ensures

pub block_labels-loop-counted-preserved : goal.block_labels-loop-counted-preserved
block_labels-loop-counted-preserved t c =
    each_counted c.args.listed.now c.loop-counted.counted-index c.counted-item.result c.loop-counted-test.true c.counted-item.is
    c.loop-counted.reached c.in_ok-reached.reached _ c.loop-counted.invariant c.in_ok-reached.ensures

pub statement_labels-returns-in_err-next-in-If : goal.statement_labels-returns-in_err-next-in-If
statement_labels-returns-in_err-next-in-If t c =
    branch_uncounted (view.statement c.args.counted.now) c.in-If.field-0 (view.guard c.in-If.field-1)
    (view.statements c.in-If.then.items) (view.statements c.deref.result.now) (view.statements c.in-If.otherwise.items) c.args.next _
    (ap view.statement c.in-If.is ∙ if_seen c.in-If.field-0 c.in-If.field-1 c.in-If.then c.in-If.otherwise)
    (ap view.statements c.deref.ensures.value) c.in_err-next-in-If.ensures c.from_residual.ensures

pub statement_labels-returns-in_ok-next-in-If : goal.statement_labels-returns-in_ok-next-in-If
statement_labels-returns-in_ok-next-in-If t c =
    branch_counted (view.statement c.args.counted.now) c.in-If.field-0 (view.guard c.in-If.field-1)
    (view.statements c.in-If.then.items) (view.statements c.deref.result.now) (view.statements c.in-If.otherwise.items) (view.statements c.deref-in-If.result.now)
    c.args.next c.in_ok-next-in-If.next c.block_labels-in-If.result
    (ap view.statement c.in-If.is ∙ if_seen c.in-If.field-0 c.in-If.field-1 c.in-If.then c.in-If.otherwise)
    (ap view.statements c.deref.ensures.value) (ap view.statements c.deref-in-If.ensures.value)
    c.in_ok-next-in-If.ensures c.block_labels-in-If.ensures
