use Rattle.std.proofs.Common.{◌≡◌, ◌∙◌, get_or, ◌+◌, ◌<◌, ◌∷◌, [], ◌++◌, ℕ, List, length, length-append, sym, ap, subst, arith}
use Rattle.std.proofs.lemmas.List.{length-map}
use Rattle.proof_names.specs.Outlines.{OutlineNode}
use Rattle.proof_build.specs.declared.proof_unwind.spots.Spot.{Spot}
use Rattle.proof_build.specs.ProofUnwind.Unwindings.{node_at, node_place_in}
use Rattle.proof_build.specs.ProofUnwind.Renumbering.{pair_at}
use Rattle.proof_build.specs.ProofUnwind.Spots.{plain, nodes_of}
use Rattle.proof_build.proofs.ProofUnwind.SpotLaws.{spot_there}
use Rattle.proof_build.proofs.ProofUnwind.OrderLaws.{others_more}
use Rattle.proof_build.proofs.proof_unwind.ordering.other_pairs.Goals as goal

pub loop-number-preserved : goal.loop-number-preserved
loop-number-preserved c =
    let nodes : List OutlineNode = nodes_of c.args.spots.now in
    let pairs = c.loop-number.pairs.items in
    let number = c.loop-number.number in
    let x : Spot = get_or c.args.spots.now number c.index-spots-number.result in
    let long = length-map c.args.spots.now plain in
    let there : number < length nodes = omega (arith, long) in
    let at : node_at nodes number ≡ plain x =
    spot_there c.args.spots.now number c.index-spots-number.result there c.index-spots-number.is ∙ ap plain c.index-spots-number.is in
    let more = length-append pairs ((x.place, number) ∷ []) in
    let is : length c.push.new.self.items ≡ length (pairs ++ (x.place, number) ∷ []) = ap (λ (z : List (ℕ × ℕ)). length z) c.in_ok-push.ensures.items in
    record {
      long = let l = c.loop-number.invariant.long in omega (arith, l, more, is);
      at = λ k l. subst (λ (z : List (ℕ × ℕ)). pair_at z k ≡ (node_place_in nodes (k + 1), k + 1)) (sym c.in_ok-push.ensures.items)
          (others_more nodes pairs number (x.place, number) c.loop-number.invariant.long c.loop-number.invariant.at (ap (λ (z : ℕ). (z, number)) (sym (ap (λ (y : OutlineNode). y.place) at))) k
          (subst (λ (z : List (ℕ × ℕ)). k < length z) c.in_ok-push.ensures.items l));
    }
