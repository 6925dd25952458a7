use Rattle.std.proofs.Common.{◌∙◌, ◌++◌, ◌∷◌, [], ℕ, cond, map, nat_eq, not, refl, sym, ap, eq-eqb}
use Rattle.std.specs.HashMap.{get}
use Rattle.std.proofs.lemmas.Bool.{ne_eqb}
use Rattle.std.proofs.lemmas.List.{append-nil}
use Rattle.nwa_base.specs.Groups.{grouped}
use Rattle.proof_names.specs.Outlines.{node}
use Rattle.explained_proof.specs.Known as spec
use Rattle.explained_proof.proofs.KnowledgeLaws.{nodes_on, nodes_end, and_not_true, first_false, first_true}
use Rattle.explained_proof.proofs.knowledge.entered_of.Goals as goal

pub loop-number-init : goal.loop-number-init
loop-number-init c = λ place. ap (λ ns. ns ++ spec.nodes_from 0 (spec.is_entered_at place) (map node c.args.nodes.now)) (c.new-groups.ensures place)

-- no entry node
pub loop-number-preserved-then-named-number : goal.loop-number-preserved-then-named-number
loop-number-preserved-then-named-number c = λ place.
    let x = c.index-nodes-number.result in
    let n = c.loop-number.number in
    let there = grouped (get nat_eq c.loop-number.groups.by_key place) in
    nodes_on (spec.is_entered_at place) c.args.nodes.now n x there there _ _ c.loop-number-test.true c.index-nodes-number.is
    (first_false (nat_eq x.entry n) (nat_eq x.place place) (not (spec.is_false (node x))) (ne_eqb x.entry n c.if-named-number.true)) refl (c.loop-number.invariant place)

-- false is known at the node
pub loop-number-preserved-then-is_false : goal.loop-number-preserved-then-is_false
loop-number-preserved-then-is_false c = λ place.
    let x = c.index-nodes-number.result in
    let there = grouped (get nat_eq c.loop-number.groups.by_key place) in
    let test = spec.is_entered_at place in
    nodes_on test c.args.nodes.now c.loop-number.number x there there _ _ c.loop-number-test.true c.index-nodes-number.is
    (and_not_true (test c.loop-number.number (node x)) (spec.is_false (node x)) c.if-is_false.ensures) refl (c.loop-number.invariant place)

pub loop-number-preserved : goal.loop-number-preserved
loop-number-preserved c = λ place.
    let x = c.index-nodes-number.result in
    let n = c.loop-number.number in
    let there = grouped (get nat_eq c.loop-number.groups.by_key place) in
    nodes_on (spec.is_entered_at place) c.args.nodes.now n x there _ _ _ c.loop-number-test.true c.index-nodes-number.is
    (first_true (nat_eq x.entry n) (nat_eq x.place place) (spec.is_false (node x)) (eq-eqb x.entry n c.if-named-number.false) c.if-is_false.ensures)
    (c.in_ok-add.ensures.ok place ∙ ap (λ (p : ℕ). cond (nat_eq p place) (there ++ n ∷ []) there) c.from.ensures) (c.loop-number.invariant place)

pub returns : goal.returns
returns c = λ place.
    let there = grouped (get nat_eq c.loop-number.groups.by_key place) in
    sym (append-nil there) ∙ nodes_end (spec.is_entered_at place) c.args.nodes.now c.loop-number.number there _ c.loop-number-test.false (c.loop-number.invariant place)
