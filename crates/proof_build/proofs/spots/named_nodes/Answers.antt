use Rattle.std.proofs.Common.{◌≡◌, ◌∙◌, [], ◌∷◌, map, ap}
use Rattle.std.proofs.lemmas.List.{take_all}
use Rattle.proof_names.specs.declared.outlines.NamedNode.{NamedNode}
use Rattle.proof_names.specs.Outlines.{node}
use Rattle.proof_build.specs.declared.proof_unwind.spots.Spot.{Spot}
use Rattle.proof_build.specs.ProofUnwind.Spots.{plain}
use Rattle.proof_build.proofs.ListLaws.{map_joined}
use Rattle.proof_build.proofs.ProofUnwind.OrderLaws.{mapped_more}
use Rattle.proof_build.proofs.spots.named_nodes.Goals as goal

pub loop-spot-preserved : goal.loop-spot-preserved
loop-spot-preserved c =
    let x : Spot = c.spot-item.result in
    let new : NamedNode = record { place = x.place; entry = x.entry; preds = c.in_ok-widened.field-0 } in
    let same : node new ≡ plain x = (λ j. record { place = x.place; entry = x.entry; preds = (c.in_ok-widened.ensures ∙ c.deref.ensures.value) j }) in
    ap (map node) c.in_ok-push.ensures.items ∙ map_joined node c.loop-spot.nodes.items (new ∷ []) ∙
    mapped_more plain c.args.spots.now (map node c.loop-spot.nodes.items) c.loop-spot.spot-index x (node new) c.loop-spot-test.true c.loop-spot.invariant
    (same ∙ ap plain c.spot-item.is)

pub returns : goal.returns
returns c = c.loop-spot.invariant ∙ ap (map plain) (take_all c.loop-spot.spot-index c.args.spots.now c.loop-spot-test.false)
