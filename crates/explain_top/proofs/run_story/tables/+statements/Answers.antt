use Rattle.std.proofs.Common.{List, ◌+◌, map, drop, ap, ◌∙◌, subst}
use Rattle.std.specs.Prelude.{codes}
use Rattle.std.proofs.lemmas.Result.{on_ok_weaker}
use Rattle.boogie_tree.specs.declared.tree.Inv.{Inv}
use Rattle.boogie_tree.specs.declared.tree.Stmt.{Stmt}
use Rattle.boogie_tree.specs.View as view
use Rattle.boogie_tree.proofs.Seen.{if_seen, while_seen}
use Rattle.explain_top.specs.RunStory.Items.{statement_items, block_items, condition_item}
use Rattle.explain_top.specs.RunStory.Tables.{AddsItems}
use Rattle.explain_top.proofs.RunStory.LineLemmas.{next_split}
use Rattle.explain_top.proofs.RunStory.TableLemmas.{if_added, while_added, items_step}
use Rattle.explain_top.proofs.run_story.tables.+statements.Goals as goal

pub statement-returns-in_ok-block-in-If : goal.statement-returns-in_ok-block-in-If
statement-returns-in_ok-block-in-If t c =
    on_ok_weaker c.block-in-If.result
    (λ last. if_added (view.statement c.args.statement.now) c.in-If.field-0 (view.guard c.in-If.field-1) (view.statements c.in-If.then.items) (view.statements c.in-If.otherwise.items)
    c.args.items.now c.add.new.items c.block.new.items c.block-in-If.new.items
    (ap view.statement c.in-If.is ∙ if_seen c.in-If.field-0 c.in-If.field-1 c.in-If.then c.in-If.otherwise)
    c.in_ok-add-in-If.ensures
    (subst (λ (ss : List Stmt). AddsItems c.add.new.items (block_items (view.statements ss)) c.block.new.items) c.deref.ensures.value c.in_ok-block-in-If.ensures)
    (subst (λ (ss : List Stmt). AddsItems c.block.new.items (block_items (view.statements ss)) c.block-in-If.new.items) c.deref-in-If.ensures.value last))
    c.block-in-If.ensures

pub statement-returns-in_ok-invariants-in-While : goal.statement-returns-in_ok-invariants-in-While
statement-returns-in_ok-invariants-in-While t c =
    on_ok_weaker c.block-in-While.result
    (λ last. while_added (view.statement c.args.statement.now) c.in-While.field-0 (view.guard c.in-While.field-1) (map view.invariant c.in-While.conditions.items) (view.statements c.in-While.body.items)
    c.args.items.now c.add-in-While.new.items c.invariants.new.items c.block-in-While.new.items
    (ap view.statement c.in-While.is ∙ while_seen c.in-While.field-0 c.in-While.field-1 c.in-While.conditions c.in-While.body)
    c.in_ok-add-in-While.ensures
    (subst (λ (is : List Inv). AddsItems c.add-in-While.new.items (map (condition_item (codes "invariant")) (map view.invariant is)) c.invariants.new.items) c.deref-in-While.ensures.value c.in_ok-invariants-in-While.ensures)
    (subst (λ (ss : List Stmt). AddsItems c.invariants.new.items (block_items (view.statements ss)) c.block-in-While.new.items) c.deref-in-While-2.ensures.value last))
    c.block-in-While.ensures

pub block-loop-each-preserved : goal.block-loop-each-preserved
block-loop-each-preserved t c =
    items_step c.loop-each.items c.statement.new.items c.args.items.now (statement_items (view.statement c.each-item.result)) (block_items (view.statements (drop c.loop-each.each-index c.args.statements.now)))
    (block_items (view.statements (drop (c.loop-each.each-index + 1) c.args.statements.now))) (block_items (view.statements c.args.statements.now))
    (ap (λ (ss : List Stmt). block_items (view.statements ss)) (next_split c.args.statements.now c.loop-each.each-index c.each-item.result c.loop-each-test.true c.each-item.is))
    c.loop-each.invariant c.in_ok-statement.ensures
