use Rattle.std.proofs.Common.{◌≡◌, ◌∙◌, ◌<◌, ◌∷◌, [], ℕ, List, length, sym, ap, arith}
use Rattle.std.specs.Prelude.{slice_index}
use Rattle.std.proofs.lemmas.List.{length-map, map-append}
use Rattle.proof_names.specs.Outlines.{OutlineNode}
use Rattle.proof_build.specs.declared.proof_unwind.spots.Spot.{Spot}
use Rattle.proof_build.specs.ProofUnwind.Unwindings.{node_at}
use Rattle.proof_build.specs.ProofUnwind.Renumbering.{renamed, pair_at}
use Rattle.proof_build.specs.ProofUnwind.Spots.{plain, nodes_of}
use Rattle.proof_build.proofs.ProofUnwind.SpotLaws.{spot_there}
use Rattle.proof_build.proofs.ProofUnwind.OrderLaws.{mapped_more, spot_moved}
use Rattle.proof_build.proofs.proof_unwind.ordering.moved_spots.Goals as goal

pub loop-pair-preserved : goal.loop-pair-preserved
loop-pair-preserved c =
    let h : ℕ → ℕ = slice_index c.args.ranks.now in
    let nodes : List OutlineNode = nodes_of c.args.spots.now in
    let x : Spot = c.index-spots-pair.result in
    let new : Spot = record { place = x.place; entry = c.rank.result; preds = c.in_ok-from_slice.field-0 } in
    let n : ℕ = (pair_at c.args.order.now c.loop-pair.pair-index).1 in
    let long = length-map c.args.spots.now plain in
    let within = c.requires c.loop-pair.pair-index c.loop-pair-test.true in
    let there : n < length nodes = omega (arith, long, within) in
    let at : node_at nodes n ≡ plain x = spot_there c.args.spots.now n x there c.index-spots-pair.is in
    ap (λ (l : List Spot). nodes_of l) c.in_ok-push.ensures.items ∙ map-append plain c.loop-pair.moved.items (new ∷ []) ∙
    mapped_more (λ (p : ℕ × ℕ). renamed h (node_at nodes p.1)) c.args.order.now (nodes_of c.loop-pair.moved.items) c.loop-pair.pair-index (0, 0) (plain new) c.loop-pair-test.true
    c.loop-pair.invariant
    (spot_moved h x c.rank.result c.in_ok-from_slice.field-0.items c.rank.ensures (c.in_ok-from_slice.ensures.items ∙ c.deref.ensures.value) ∙ ap (renamed h) (sym at))
