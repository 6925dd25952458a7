use Rattle.std.proofs.Common.{◌≡◌, ◌∙◌, ◌<◌, ℕ, List, [], ◌∷◌, length, Some, subst, sym, ap, arith}
use Rattle.std.specs.Prelude.{slice_get, slice_index}
use Rattle.std.proofs.lemmas.List.{length-map}
use Rattle.proof_names.specs.Outlines.{OutlineNode}
use Rattle.proof_build.specs.declared.proof_unwind.spots.Spot.{Spot}
use Rattle.proof_build.specs.ProofUnwind.Unwindings.{bare}
use Rattle.proof_build.specs.ProofUnwind.Renumbering.{pair_at, IsOrder, ArePlaced, AreRanks}
use Rattle.proof_build.specs.ProofUnwind.Spots.{plain, nodes_of}
use Rattle.proof_build.proofs.ProofUnwind.ImageLaws.{exploring_renumbered, opened_renumbered}
use Rattle.proof_build.proofs.ProofUnwind.OrderLaws.{IsOrdered, ordered, place_first}
use Rattle.proof_build.proofs.ProofUnwind.LinkLaws.{ranks_below}
use Rattle.proof_build.proofs.proof_unwind.ordering.by_place.Goals as goal

pub placed-requires-clause-first : goal.placed-requires-clause-first
placed-requires-clause-first c =
    place_first (nodes_of c.deref.result.now) (subst (λ (l : List Spot). slice_get (nodes_of l) 0 ≡ Some bare) (sym c.deref.ensures.value) c.requires.first)

pub returns-clause-exploring : goal.returns-clause-exploring
returns-clause-exploring c =
    let nodes : List OutlineNode = nodes_of c.args.found.now.nodes.items in
    let new : List OutlineNode = nodes_of c.in_ok-nodes.nodes.items in
    let o : IsOrdered nodes new c.args.found.now.steps c.in_ok-steps.steps =
    ordered c.args.found.now.nodes.items c.deref.result.now c.deref-3.result.now c.in_ok-order.order.items c.deref-2.result.now c.deref-4.result.now c.in_ok-ranks.ranks.items
    c.deref-5.result.now c.deref-6.result.now new c.args.found.now.steps c.in_ok-steps.steps c.deref.ensures.value c.deref-2.ensures.value c.deref-3.ensures.value c.deref-4.ensures.value
    c.deref-5.ensures.value c.deref-6.ensures.value c.in_ok-order.ensures c.in_ok-ranks.ensures c.in_ok-nodes.ensures c.in_ok-steps.ensures c.requires.first in
    λ m b x. exploring_renumbered m b nodes new o.number c.args.found.now.steps c.in_ok-steps.steps o.renumbered o.moved x

pub returns-clause-opened : goal.returns-clause-opened
returns-clause-opened c =
    let nodes : List OutlineNode = nodes_of c.args.found.now.nodes.items in
    let new : List OutlineNode = nodes_of c.in_ok-nodes.nodes.items in
    let o : IsOrdered nodes new c.args.found.now.steps c.in_ok-steps.steps =
    ordered c.args.found.now.nodes.items c.deref.result.now c.deref-3.result.now c.in_ok-order.order.items c.deref-2.result.now c.deref-4.result.now c.in_ok-ranks.ranks.items
    c.deref-5.result.now c.deref-6.result.now new c.args.found.now.steps c.in_ok-steps.steps c.deref.ensures.value c.deref-2.ensures.value c.deref-3.ensures.value c.deref-4.ensures.value
    c.deref-5.ensures.value c.deref-6.ensures.value c.in_ok-order.ensures c.in_ok-ranks.ensures c.in_ok-nodes.ensures c.in_ok-steps.ensures c.requires.first in
    λ m b x v. opened_renumbered m b nodes new o.number c.args.found.now.steps c.in_ok-steps.steps o.renumbered o.moved x v

pub returns-clause-ascend : goal.returns-clause-ascend
returns-clause-ascend c =
    let nodes : List OutlineNode = nodes_of c.args.found.now.nodes.items in
    let new : List OutlineNode = nodes_of c.in_ok-nodes.nodes.items in
    let o : IsOrdered nodes new c.args.found.now.steps c.in_ok-steps.steps =
    ordered c.args.found.now.nodes.items c.deref.result.now c.deref-3.result.now c.in_ok-order.order.items c.deref-2.result.now c.deref-4.result.now c.in_ok-ranks.ranks.items
    c.deref-5.result.now c.deref-6.result.now new c.args.found.now.steps c.in_ok-steps.steps c.deref.ensures.value c.deref-2.ensures.value c.deref-3.ensures.value c.deref-4.ensures.value
    c.deref-5.ensures.value c.deref-6.ensures.value c.in_ok-order.ensures c.in_ok-ranks.ensures c.in_ok-nodes.ensures c.in_ok-steps.ensures c.requires.first in o.ascend

pub moved_steps-requires : goal.moved_steps-requires
moved_steps-requires c =
    let nodes : List OutlineNode = nodes_of c.args.found.now.nodes.items in
    let placed : ArePlaced nodes c.in_ok-order.order.items = subst (λ (l : List Spot). ArePlaced (nodes_of l) c.in_ok-order.order.items) c.deref.ensures.value c.in_ok-order.ensures in
    let ranks : AreRanks c.in_ok-order.order.items c.in_ok-ranks.ranks.items = subst (λ (l : List (ℕ × ℕ)). AreRanks l c.in_ok-ranks.ranks.items) c.deref-2.ensures.value c.in_ok-ranks.ensures in
    subst (λ (l : List ℕ). (n : ℕ) → n < c.args.found.now.steps.states → slice_index l n < c.args.found.now.steps.states) (sym c.deref-6.ensures.value)
    (ranks_below nodes c.in_ok-order.order.items c.in_ok-ranks.ranks.items c.args.found.now.steps.states c.requires.states placed ranks)

-- there is a first one
some_there : (found : List Spot) (x : OutlineNode) → slice_get (nodes_of found) 0 ≡ Some x → 0 < length found
some_there [] x e = absurd (cc)
some_there (y ∷ found) x e = omega arith

pub placed-requires-clause-some : goal.placed-requires-clause-some
placed-requires-clause-some c =
    subst (λ (l : List Spot). 0 < length l) (sym c.deref.ensures.value) (some_there c.args.found.now.nodes.items bare c.requires.first)

pub ranked-requires-clause-is_order : goal.ranked-requires-clause-is_order
ranked-requires-clause-is_order c = subst (λ (l : List (ℕ × ℕ)). IsOrder l) (sym c.deref-2.ensures.value) c.in_ok-order.ensures.is_order

-- the numbers in the order are below the length of the list
order_below : (found a b : List Spot) (order o : List (ℕ × ℕ)) → a ≡ found → b ≡ found → o ≡ order → ArePlaced (nodes_of a) order → (j : ℕ) → j < length o → (pair_at o j).1 < length b
order_below found a b order o ea eb eo p j l =
    let below : (pair_at o j).1 < length o = subst (λ (x : List (ℕ × ℕ)). (i : ℕ) → i < length x → (pair_at x i).1 < length x) (sym eo) p.is_order.below j l in
    let long : length o ≡ length b = ap length eo ∙ p.long ∙ length-map a plain ∙ ap length (ea ∙ sym eb) in
    subst (λ (n : ℕ). (pair_at o j).1 < n) long below

pub moved_spots-requires : goal.moved_spots-requires
moved_spots-requires c =
    order_below c.args.found.now.nodes.items c.deref.result.now c.deref-3.result.now c.in_ok-order.order.items c.deref-4.result.now c.deref.ensures.value c.deref-3.ensures.value
    c.deref-4.ensures.value c.in_ok-order.ensures
