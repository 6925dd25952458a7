use Rattle.std.proofs.Common.{map, Option, ap, sym, refl, ◌∙◌}
use Rattle.std.specs.Prelude.{flat_map}
use Rattle.boogie_tree.specs.declared.span.Span.{Span}
use Rattle.typed_tree.specs.TypedTree.{TypedStatement}
use Rattle.typed_tree.specs.TypedView as view
use Rattle.typed_tree.proofs.TypingRules.StatementParts.{if_seen, while_seen}
use Rattle.modular_cut.specs.Ties.Earliest.{earliest}
use Rattle.modular_cut.specs.FreeConditions.{free_condition, free_statement, free_block}
use Rattle.modular_cut.proofs.First.{earliest_append, found_more, found_end}
use Rattle.modular_cut.proofs.free.+free.Goals as goal

pub statements-loop-said-preserved : goal.statements-loop-said-preserved
statements-loop-said-preserved t c =
    found_more (λ x. free_statement (view.statement x)) (λ xs. free_block (view.statements xs)) (λ x xs. refl) c.deref-said-items.result.now c.loop-said.said-index c.said-item.result c.loop-said.first c.statement-first.result _
    c.loop-said-test.true c.said-item.is c.statement-first.ensures c.loop-said.invariant

pub statements-returns : goal.statements-returns
statements-returns t c =
    found_end (λ xs. free_block (view.statements xs)) refl c.deref-said-items.result.now c.loop-said.said-index c.loop-said.first _ c.loop-said-test.false c.loop-said.invariant
    ∙ ap (λ (xs : _). earliest c.args.found (free_block (view.statements xs))) c.deref-said-items.ensures.value

pub statement-returns-in-If : goal.statement-returns-in-If
statement-returns-in-If t c =
    c.statements-in-If.ensures
    ∙ ap (λ (o : Option Span). earliest o (free_block (view.statements c.in-If.otherwise.items))) c.statements.ensures
    ∙ sym (earliest_append c.args.found (free_block (view.statements c.in-If.then.items)) (free_block (view.statements c.in-If.otherwise.items)))
    ∙ ap (λ (s : TypedStatement). earliest c.args.found (free_statement s)) (sym (ap view.statement c.in-If.is ∙ if_seen c.in-If.field-0 c.in-If.field-1 c.in-If.then c.in-If.otherwise))

pub statement-returns-in-While : goal.statement-returns-in-While
statement-returns-in-While t c =
    c.statements-in-While.ensures
    ∙ ap (λ (o : Option Span). earliest o (free_block (view.statements c.in-While.body.items)))
    (c.conditions.ensures ∙ ap (λ (xs : _). earliest c.args.found (flat_map free_condition (map view.invariant xs))) c.deref.ensures.value)
    ∙ sym (earliest_append c.args.found (flat_map free_condition (map view.invariant c.in-While.claims.items)) (free_block (view.statements c.in-While.body.items)))
    ∙ ap (λ (s : TypedStatement). earliest c.args.found (free_statement s)) (sym (ap view.statement c.in-While.is ∙ while_seen c.in-While.field-0 c.in-While.field-1 c.in-While.claims c.in-While.body))
