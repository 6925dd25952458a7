use Rattle.std.proofs.Common.{◌+◌, List, map, refl, ap, sym, ◌∙◌}
use Rattle.typed_tree.specs.declared.types.TStmt.{TStmt}
use Rattle.typed_tree.specs.declared.types.TInv.{TInv}
use Rattle.typed_tree.specs.TypedView as view
use Rattle.typed_tree.specs.TypingRules.Counts.{assertions, block_assertions, plain_invariants}
use Rattle.boogie_run.proofs.BoogiePoints.SeekLaws.{if_seen, while_seen}
use Rattle.boogie_run.proofs.BoogiePoints.CountSteps.{counted_more, counted_all}
use Rattle.boogie_run.proofs.boogie_points.counts.+assertions.Goals as goal

pub block_assertions-loop-counted-preserved : goal.block_assertions-loop-counted-preserved
block_assertions-loop-counted-preserved t c =
    counted_more (λ (ss : List TStmt). block_assertions (map view.procedure c.args.procs.now) (view.statements ss)) c.args.listed.now c.loop-counted.counted-index c.counted-item.result c.loop-counted.count c.assertions-count.result
    (assertions (map view.procedure c.args.procs.now) (view.statement c.counted-item.result)) _ c.loop-counted-test.true c.counted-item.is (λ rest. refl) c.assertions-count.ensures c.loop-counted.invariant

pub block_assertions-returns : goal.block_assertions-returns
block_assertions-returns t c =
    counted_all (λ (ss : List TStmt). block_assertions (map view.procedure c.args.procs.now) (view.statements ss)) c.args.listed.now c.loop-counted.counted-index c.loop-counted.count _ c.loop-counted-test.false refl c.loop-counted.invariant

pub assertions-returns-in-If : goal.assertions-returns-in-If
assertions-returns-in-If t c =
    (λ i. (c.block_assertions-inner.ensures ∙ ap (λ (ss : List TStmt). block_assertions (map view.procedure c.args.procs.now) (view.statements ss)) c.deref.ensures.value) i + (c.block_assertions.ensures ∙ ap (λ (ss : List TStmt). block_assertions (map view.procedure c.args.procs.now) (view.statements ss)) c.deref-in-If.ensures.value) i)
    ∙ ap (assertions (map view.procedure c.args.procs.now)) (sym (ap view.statement c.in-If.is ∙ if_seen c.in-If.field-0 c.in-If.field-1 c.in-If.then c.in-If.otherwise))

pub assertions-returns-in-While : goal.assertions-returns-in-While
assertions-returns-in-While t c =
    (λ i. (c.plain_count-head.ensures ∙ ap (λ (is : List TInv). plain_invariants (map view.invariant is)) c.deref-in-While.ensures.value) i + (c.block_assertions-in-While.ensures ∙ ap (λ (ss : List TStmt). block_assertions (map view.procedure c.args.procs.now) (view.statements ss)) c.deref-in-While-2.ensures.value) i)
    ∙ ap (assertions (map view.procedure c.args.procs.now)) (sym (ap view.statement c.in-While.is ∙ while_seen c.in-While.field-0 c.in-While.field-1 c.in-While.conditions c.in-While.body))
