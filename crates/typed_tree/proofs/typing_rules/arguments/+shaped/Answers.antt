use Rattle.std.proofs.Common.{Bool, ◌&&◌, ◌+◌, List, map, drop, ap, sym, ◌∙◌}
use Rattle.typed_tree.specs.declared.types.TStmt.{TStmt}
use Rattle.typed_tree.specs.TypedView as view
use Rattle.typed_tree.specs.TypingRules.Shape.{is_shaped_block}
use Rattle.typed_tree.proofs.TypingRules.LoopLaws.{left_step, left_end}
use Rattle.typed_tree.proofs.typing_rules.arguments.+shaped.Goals as goal

pub is_shaped_block-loop-shaped-preserved : goal.is_shaped_block-loop-shaped-preserved
is_shaped_block-loop-shaped-preserved t c =
    left_step (λ (xs : List TStmt). is_shaped_block (map view.procedure c.args.procs.now) (view.statements xs)) c.args.listed.now c.loop-shaped.shaped-index c.shaped-item.result _
    c.loop-shaped-test.true c.shaped-item.is
    (ap (λ (b : Bool). b && is_shaped_block (map view.procedure c.args.procs.now) (view.statements (drop (c.loop-shaped.shaped-index + 1) c.args.listed.now))) (sym c.is_shaped.ensures ∙ c.if-not-is_shaped.false))
    c.loop-shaped.invariant

pub is_shaped_block-returns : goal.is_shaped_block-returns
is_shaped_block-returns t c =
    left_end (λ (xs : List TStmt). is_shaped_block (map view.procedure c.args.procs.now) (view.statements xs)) c.args.listed.now c.loop-shaped.shaped-index _
    c.loop-shaped-test.false c.loop-shaped.invariant
