use Rattle.std.proofs.Common.{◌+◌, ◌<◌, ◌^◌, ◌≡◌, List, map, length, refl, ap, sym, subst, ◌∙◌, arith}
use Rattle.std.proofs.lemmas.List.{length-map}
use Rattle.typed_tree.specs.declared.types.TStmt.{TStmt}
use Rattle.typed_tree.specs.TypedTree.{TypedStatement}
use Rattle.typed_tree.specs.TypedView as view
use Rattle.typed_tree.specs.TypingRules.Counts.{points, block_points}
use Rattle.boogie_run.proofs.BoogiePoints.SeekLaws.{if_seen, while_seen}
use Rattle.boogie_run.proofs.BoogiePoints.CountSteps.{counted_more, counted_all}
use Rattle.boogie_run.proofs.boogie_points.counts.+places.Goals as goal

pub block_points-loop-counted-preserved : goal.block_points-loop-counted-preserved
block_points-loop-counted-preserved t c =
    counted_more (λ (ss : List TStmt). block_points (map view.procedure c.args.procs.now) (view.statements ss)) c.args.listed.now c.loop-counted.counted-index c.counted-item.result c.loop-counted.count c.points-count.result
    (points (map view.procedure c.args.procs.now) (view.statement c.counted-item.result)) _ c.loop-counted-test.true c.counted-item.is (λ rest. refl) c.points-count.ensures c.loop-counted.invariant

pub block_points-returns : goal.block_points-returns
block_points-returns t c =
    counted_all (λ (ss : List TStmt). block_points (map view.procedure c.args.procs.now) (view.statements ss)) c.args.listed.now c.loop-counted.counted-index c.loop-counted.count _ c.loop-counted-test.false refl c.loop-counted.invariant

pub points-returns-in-If : goal.points-returns-in-If
points-returns-in-If t c =
    (λ i. 1 + ((c.block_points-inner.ensures ∙ ap (λ (ss : List TStmt). block_points (map view.procedure c.args.procs.now) (view.statements ss)) c.deref.ensures.value) i + (c.block_points.ensures ∙ ap (λ (ss : List TStmt). block_points (map view.procedure c.args.procs.now) (view.statements ss)) c.deref-in-If.ensures.value) i))
    ∙ ap (points (map view.procedure c.args.procs.now)) (sym (ap view.statement c.in-If.is ∙ if_seen c.in-If.field-0 c.in-If.field-1 c.in-If.then c.in-If.otherwise))

pub points-overflow_add-result-in-If : goal.points-overflow_add-result-in-If
points-overflow_add-result-in-If t c =
    let procs = map view.procedure c.args.procs.now in
    let whole = subst (λ (s : TypedStatement). points procs s < 2 ^ 32) (ap view.statement c.in-If.is ∙ if_seen c.in-If.field-0 c.in-If.field-1 c.in-If.then c.in-If.otherwise) c.requires in
    let first = c.block_points-inner.ensures ∙ ap (λ (ss : List TStmt). block_points procs (view.statements ss)) c.deref.ensures.value in
    let second = c.block_points.ensures ∙ ap (λ (ss : List TStmt). block_points procs (view.statements ss)) c.deref-in-If.ensures.value in
    omega (arith, whole, first, second)

pub points-overflow_add-result-in-If-2 : goal.points-overflow_add-result-in-If-2
points-overflow_add-result-in-If-2 t c =
    let procs = map view.procedure c.args.procs.now in
    let whole = subst (λ (s : TypedStatement). points procs s < 2 ^ 32) (ap view.statement c.in-If.is ∙ if_seen c.in-If.field-0 c.in-If.field-1 c.in-If.then c.in-If.otherwise) c.requires in
    let first = c.block_points-inner.ensures ∙ ap (λ (ss : List TStmt). block_points procs (view.statements ss)) c.deref.ensures.value in
    let second = c.block_points.ensures ∙ ap (λ (ss : List TStmt). block_points procs (view.statements ss)) c.deref-in-If.ensures.value in
    omega (arith, whole, first, second)

pub points-returns-in-While : goal.points-returns-in-While
points-returns-in-While t c =
    let head : c.len-head.result ≡ length (map view.invariant c.in-While.conditions.items) = omega (arith, c.len-head.ensures, length-map c.in-While.conditions.items view.invariant) in
    (λ i. head i + (1 + (c.block_points-in-While.ensures ∙ ap (λ (ss : List TStmt). block_points (map view.procedure c.args.procs.now) (view.statements ss)) c.deref-in-While.ensures.value) i))
    ∙ ap (points (map view.procedure c.args.procs.now)) (sym (ap view.statement c.in-While.is ∙ while_seen c.in-While.field-0 c.in-While.field-1 c.in-While.conditions c.in-While.body))
