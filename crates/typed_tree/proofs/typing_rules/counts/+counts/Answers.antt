use Rattle.std.proofs.Common.{◌+◌, List, map, ap, sym, ◌∙◌, length, arith}
use Rattle.std.proofs.lemmas.List.{length-map}
use Rattle.typed_tree.specs.declared.types.TStmt.{TStmt}
use Rattle.typed_tree.specs.declared.types.TInv.{TInv}
use Rattle.typed_tree.specs.TypedTree.{TypedStatement}
use Rattle.typed_tree.specs.TypedView as view
use Rattle.typed_tree.specs.TypingRules.Counts.{plain_invariants}
use Rattle.typed_tree.specs.TypingRules.Ties.CappedCounts.{capped, statement_places, block_places}
use Rattle.typed_tree.proofs.TypingRules.StatementParts.{if_seen, while_seen}
use Rattle.typed_tree.proofs.TypingRules.LoopLaws.{counted_step, capped_within}
use Rattle.typed_tree.proofs.TypingRules.CountLaws.{branch_counted, loop_counted}
use Rattle.typed_tree.proofs.typing_rules.counts.+counts.Goals as goal

pub block-loop-counted-preserved : goal.block-loop-counted-preserved
block-loop-counted-preserved t c = record {
  within = capped_within _ _ c.sum-count.ensures;
  counted = counted_step (λ (xs : List TStmt). block_places (map view.procedure c.args.checked.now) (view.statements xs)) c.args.listed.now c.loop-counted.counted-index c.counted-item.result
      c.loop-counted.count c.statement.result (statement_places (map view.procedure c.args.checked.now) (view.statement c.counted-item.result)) c.sum-count.result _
      c.loop-counted-test.true c.counted-item.is (λ rest. omega arith) c.sum-count.ensures c.statement.ensures c.loop-counted.invariant.counted;
}

pub statement-returns-in-If : goal.statement-returns-in-If
statement-returns-in-If t c =
    branch_counted (map view.procedure c.args.checked.now) c.in-If.field-0 (view.guard c.in-If.field-1) (view.statements c.in-If.then.items) (view.statements c.in-If.otherwise.items)
    c.block-inner.result c.block.result c.sum-in-If.result c.sum-in-If-2.result
    (c.block-inner.ensures ∙ ap (λ (xs : List TStmt). capped (block_places (map view.procedure c.args.checked.now) (view.statements xs))) c.deref.ensures.value)
    (c.block.ensures ∙ ap (λ (xs : List TStmt). capped (block_places (map view.procedure c.args.checked.now) (view.statements xs))) c.deref-in-If.ensures.value)
    c.sum-in-If.ensures c.sum-in-If-2.ensures
    ∙ ap (λ (s : TypedStatement). capped (statement_places (map view.procedure c.args.checked.now) s))
    (sym (ap view.statement c.in-If.is ∙ if_seen c.in-If.field-0 c.in-If.field-1 c.in-If.then c.in-If.otherwise))

pub statement-returns-in-While : goal.statement-returns-in-While
statement-returns-in-While t c =
    loop_counted (map view.procedure c.args.checked.now) c.in-While.field-0 (view.guard c.in-While.field-1) (map view.invariant c.in-While.conditions.items) (view.statements c.in-While.body.items)
    (length c.in-While.conditions.items) c.loop_head-head.result c.block-in-While.result c.sum-in-While.result
    (sym (length-map c.in-While.conditions.items view.invariant))
    (c.loop_head-head.ensures ∙ ap (λ (is : List TInv). capped (1 + (length is + plain_invariants (map view.invariant is)))) c.deref-in-While.ensures.value)
    (c.block-in-While.ensures ∙ ap (λ (xs : List TStmt). capped (block_places (map view.procedure c.args.checked.now) (view.statements xs))) c.deref-in-While-2.ensures.value)
    c.sum-in-While.ensures
    ∙ ap (λ (s : TypedStatement). capped (statement_places (map view.procedure c.args.checked.now) s))
    (sym (ap view.statement c.in-While.is ∙ while_seen c.in-While.field-0 c.in-While.field-1 c.in-While.conditions c.in-While.body))
