use Rattle.std.proofs.Common.{◌∙◌, ◌++◌, ◌∷◌, [], ℕ, cond, map, nat_eq, refl, sym, ap}
use Rattle.std.specs.Prelude.{◌&&◌}
use Rattle.std.specs.HashMap.{get}
use Rattle.std.proofs.lemmas.List.{append-nil}
use Rattle.nwa_base.specs.Groups.{grouped}
use Rattle.proof_names.specs.Outlines.{node}
use Rattle.explained_proof.specs.Known as spec
use Rattle.explained_proof.specs.Ties.Views as view
use Rattle.explained_proof.proofs.KnowledgeLaws.{nodes_on, nodes_end, and_not_true, and_not_false}
use Rattle.explained_proof.proofs.knowledge.standing_of.Goals as goal

pub loop-number-init : goal.loop-number-init
loop-number-init c = λ place entry. ap (λ ns. ns ++ spec.nodes_from 0 (spec.is_standing_at place entry) (map node c.args.nodes.now)) (c.new-groups.ensures (place, entry))

-- false is known at the node
pub loop-number-preserved-then-is_false : goal.loop-number-preserved-then-is_false
loop-number-preserved-then-is_false c = λ place entry.
    let x = c.index-nodes-number.result in
    let there = grouped (get view.same_pair c.loop-number.groups.by_key (place, entry)) in
    let test = spec.is_standing_at place entry in
    nodes_on test c.args.nodes.now c.loop-number.number x there there _ _ c.loop-number-test.true c.index-nodes-number.is
    (and_not_true (test c.loop-number.number (node x)) (spec.is_false (node x)) c.if-is_false.ensures) refl (c.loop-number.invariant place entry)

pub loop-number-preserved : goal.loop-number-preserved
loop-number-preserved c = λ place entry.
    let x = c.index-nodes-number.result in
    let test = spec.is_standing_at place entry in
    let there = grouped (get view.same_pair c.loop-number.groups.by_key (place, entry)) in
    let n = c.loop-number.number in
    nodes_on test c.args.nodes.now n x there _ _ _ c.loop-number-test.true c.index-nodes-number.is (and_not_false (test n (node x)) (spec.is_false (node x)) c.if-is_false.ensures)
    (c.in_ok-add.ensures.ok (place, entry) ∙ ap (λ (p : ℕ). cond (nat_eq p place && nat_eq x.entry entry) (there ++ n ∷ []) there) c.from.ensures) (c.loop-number.invariant place entry)

pub returns : goal.returns
returns c = λ place entry.
    let there = grouped (get view.same_pair c.loop-number.groups.by_key (place, entry)) in
    sym (append-nil there) ∙ nodes_end (spec.is_standing_at place entry) c.args.nodes.now c.loop-number.number there _ c.loop-number-test.false (c.loop-number.invariant place entry)
