use Rattle.std.proofs.Common.{◌≡◌, ◌∙◌, ◌∷◌, ◌+◌, ap, sym, map, drop, arith}
use Rattle.std.proofs.lemmas.List.{drop_more}
use Rattle.typed_tree.specs.declared.types.TSpec.{TSpec}
use Rattle.typed_tree.specs.TypedView as view
use Rattle.boogie_run.proofs.BoogiePoints.ConditionLaws.{before_step}
use Rattle.boogie_run.proofs.boogie_points.counts.plain_before.Goals as goal

pub loop-said-preserved : goal.loop-said-preserved
loop-said-preserved c =
    let rest : drop c.loop-said.said-index c.args.specs.now ≡ c.said-item.result ∷ drop (c.loop-said.said-index + 1) c.args.specs.now =
    drop_more c.args.specs.now c.loop-said.said-index c.said-item.result c.loop-said-test.true
    ∙ ap (λ (x : TSpec). x ∷ drop (c.loop-said.said-index + 1) c.args.specs.now) (sym c.said-item.is) in
    let step = before_step (map view.specification (drop c.loop-said.said-index c.args.specs.now)) (map view.specification (drop (c.loop-said.said-index + 1) c.args.specs.now))
    (view.specification c.said-item.result) c.loop-said.count c.loop-said.left c.is_ensures-left.result c.is_asserted-count.result _ _
    (ap (map view.specification) rest) (omega arith) c.is_ensures-left.ensures c.is_asserted-count.ensures c.loop-said.invariant.within c.loop-said.invariant.counted in
    record { within = step.0; counted = step.1 }
