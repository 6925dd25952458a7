use Rattle.std.proofs.Common.{◌≡◌, ◌∙◌, ◌<◌, ◌∷◌, [], ◌++◌, ℕ, List, length, sym, ap, subst, arith, rules}
use Rattle.std.proofs.lemmas.List.{length-map}
use Rattle.std.proofs.lemmas.List.Sorted.{IsNonDecreasingBy-from_sort_by_key}
use Rattle.proof_names.specs.Outlines.{OutlineNode}
use Rattle.proof_build.specs.ProofUnwind.Renumbering.{ArePlaced}
use Rattle.proof_build.specs.ProofUnwind.Spots.{plain, nodes_of}
use Rattle.proof_build.proofs.ProofUnwind.OrderLaws.{placed_by}
use Rattle.proof_build.proofs.proof_unwind.ordering.placed.Goals as goal

pub returns : goal.returns
returns c =
    let nodes : List OutlineNode = nodes_of c.args.spots.now in
    let long = length-map c.args.spots.now plain in
    let some : 0 < length nodes = omega (arith, long, c.requires.some) in
    let is : c.extend_from_slice.new.self.items ≡ (0, 0) ∷ c.sort_by_key.new.self.items =
    c.in_ok-extend_from_slice.ensures.items ∙
    ap (λ (z : List (ℕ × ℕ)). z ++ c.deref.result.now) (c.in_ok-push.ensures.items ∙ ap (λ (z : List (ℕ × ℕ)). z ++ (0, 0) ∷ []) c.new-order.ensures.items) ∙
    ap (λ (z : List (ℕ × ℕ)). (0, 0) ∷ z) c.deref.ensures.value in
    subst (λ (z : List (ℕ × ℕ)). ArePlaced nodes z) (sym is)
    (placed_by nodes c.in_ok-others.others.items c.sort_by_key.new.self.items c.in_ok-others.ensures c.in_ok-sort_by_key.ensures.permutation
    (IsNonDecreasingBy-from_sort_by_key (λ (x : ℕ × ℕ). x.0) c.sort_by_key.new.self.items c.in_ok-sort_by_key.ensures.sorted (λ a r f k. search rules)) some c.requires.first)
