use Rattle.std.proofs.Common.{ap, map, ◌∙◌}
use Rattle.typed_tree.specs.TypedView as view
use Rattle.typed_tree.specs.TypingRules.Ties.Judged.{context}
use Rattle.typed_tree.proofs.TypingRules.StatementParts.{assert_seen, assume_seen, if_seen, while_seen, assert_judged, assume_judged, branch_judged, loop_judged}
use Rattle.typed_tree.proofs.typing_rules.statements.head.Goals as goal

pub returns-in-Assert : goal.returns-in-Assert
returns-in-Assert c =
    assert_judged _ (context c.args.frame.now) (view.statement c.args.statement.now) c.in-Assert.field-0 (view.expression c.in-Assert.claim)
    (ap view.statement c.in-Assert.is ∙ assert_seen c.in-Assert.field-0 c.in-Assert.claim) c.condition.ensures

pub returns-in-Assume : goal.returns-in-Assume
returns-in-Assume c =
    assume_judged _ (context c.args.frame.now) (view.statement c.args.statement.now) c.in-Assume.field-0 (view.expression c.in-Assume.claim)
    (ap view.statement c.in-Assume.is ∙ assume_seen c.in-Assume.field-0 c.in-Assume.claim) c.condition-in-Assume.ensures

pub returns-in-If : goal.returns-in-If
returns-in-If c =
    branch_judged _ (context c.args.frame.now) (view.statement c.args.statement.now) c.in-If.field-0 (view.guard c.in-If.decided)
    (view.statements c.in-If.field-2.items) (view.statements c.in-If.field-3.items)
    (ap view.statement c.in-If.is ∙ if_seen c.in-If.field-0 c.in-If.decided c.in-If.field-2 c.in-If.field-3) c.guard.ensures

pub returns-in-While : goal.returns-in-While
returns-in-While c =
    loop_judged _ (context c.args.frame.now) (view.statement c.args.statement.now) c.in-While.field-0 (view.guard c.in-While.decided)
    (map view.invariant c.in-While.conditions.items) (map view.invariant c.deref-in-While.result.now) (view.statements c.in-While.field-3.items)
    (ap view.statement c.in-While.is ∙ while_seen c.in-While.field-0 c.in-While.decided c.in-While.conditions c.in-While.field-3)
    (ap (map view.invariant) c.deref-in-While.ensures.value) c.loop_head.ensures
