use Rattle.std.proofs.Common.{◌≡◌, ◌∙◌, ℕ, List, sym, ap, subst}
use Rattle.proof_names.specs.Outlines.{OutlineNode}
use Rattle.proof_build.specs.declared.proof_unwind.spots.Spot.{Spot}
use Rattle.proof_build.specs.ProofUnwind.Unwindings.{node_at, entry_of}
use Rattle.proof_build.specs.ProofUnwind.Exploring.{BackFollows, AreFollowing, Stage, Returned, linked_back}
use Rattle.proof_build.specs.ProofUnwind.Spots.{plain, nodes_of, IsWeaker}
use Rattle.proof_build.specs.ProofUnwind.Ties.Searches.{stage_of}
use Rattle.proof_build.proofs.ProofUnwind.SpotLaws.{spot_there}
use Rattle.proof_build.proofs.ProofUnwind.SteppingLaws.{back_to, back_new, then_at, then_new}
use Rattle.proof_build.proofs.ProofUnwind.LinkLaws as links
use Rattle.proof_build.proofs.proof_unwind.stepping.back_step.Goals as goal

pub returns-in-Some : goal.returns-in-Some
returns-in-Some c =
    let s : Stage = stage_of c.args.search.now in
    let ex : node_at s.nodes c.args.exit ≡ plain c.index-spot.result.now = spot_there c.args.search.now.spots.items c.args.exit c.index-spot.result.now c.requires.exit c.index-spot.ensures in
    let at : node_at s.nodes c.args.before ≡ plain c.index-caller.result.now =
    spot_there c.args.search.now.spots.items c.args.before c.index-caller.result.now c.requires.before c.index-caller.ensures in
    let f : AreFollowing (BackFollows c.args.union.now c.args.letter (node_at s.nodes c.args.exit) (node_at s.nodes c.args.before)) c.in_ok-preds.preds.items =
    c.in_ok-preds.ensures (node_at s.nodes c.args.exit) (node_at s.nodes c.args.before) (ap (λ (x : OutlineNode). x.preds) ex ∙ sym c.deref.ensures.value)
    (ap (λ (x : OutlineNode). x.preds) at ∙ sym c.deref-2.ensures.value) in
    let w : IsWeaker s.nodes c.args.place c.index-caller.result.now.entry c.in_ok-preds.preds.items c.in-Some.to =
    subst (λ (l : List ℕ). IsWeaker s.nodes c.args.place c.index-caller.result.now.entry l c.in-Some.to) c.deref-4.ensures.value
    (subst (λ (l : List Spot). IsWeaker (nodes_of l) c.args.place c.index-caller.result.now.entry c.deref-4.result.now c.in-Some.to) c.deref-3.ensures.value c.in-Some.ensures) in
    let v : IsWeaker s.nodes c.args.place (entry_of s.nodes c.args.before) c.in_ok-preds.preds.items c.in-Some.to =
    subst (λ (e : ℕ). IsWeaker s.nodes c.args.place e c.in_ok-preds.preds.items c.in-Some.to) (sym (ap (λ (x : OutlineNode). x.entry) at)) w in
    then_at c.link_back.result (Returned c.args.graph.now c.args.union.now c.args.exit c.args.before c.args.letter c.args.place s) (stage_of c.link_back.new.self)
    (linked_back s (c.args.exit, c.args.before, c.args.letter, c.in-Some.to))
    (back_to c.args.graph.now c.args.union.now s.nodes s.steps c.args.exit c.args.before c.args.call c.args.letter c.args.place c.in_ok-preds.preds.items c.in-Some.to
    c.requires.exploring c.requires.exit c.requires.before c.requires.called c.requires.names c.requires.edge f v) c.link_back.ensures

pub returns : goal.returns
returns c =
    let s : Stage = stage_of c.args.search.now in
    let ex : node_at s.nodes c.args.exit ≡ plain c.index-spot.result.now = spot_there c.args.search.now.spots.items c.args.exit c.index-spot.result.now c.requires.exit c.index-spot.ensures in
    let at : node_at s.nodes c.args.before ≡ plain c.index-caller.result.now =
    spot_there c.args.search.now.spots.items c.args.before c.index-caller.result.now c.requires.before c.index-caller.ensures in
    let f : AreFollowing (BackFollows c.args.union.now c.args.letter (node_at s.nodes c.args.exit) (node_at s.nodes c.args.before)) c.in_ok-preds.preds.items =
    c.in_ok-preds.ensures (node_at s.nodes c.args.exit) (node_at s.nodes c.args.before) (ap (λ (x : OutlineNode). x.preds) ex ∙ sym c.deref.ensures.value)
    (ap (λ (x : OutlineNode). x.preds) at ∙ sym c.deref-2.ensures.value) in
    let x : OutlineNode = record { place = c.args.place; entry = c.index-caller.result.now.entry; preds = c.in_ok-preds.preds.items } in
    then_new c.link_back-2.result (Returned c.args.graph.now c.args.union.now c.args.exit c.args.before c.args.letter c.args.place s)
    (λ t k. linked_back t (c.args.exit, c.args.before, c.args.letter, k)) s (stage_of c.add.new.self) (stage_of c.link_back-2.new.self) x c.in_ok-to.to c.in_ok-to.ensures.stage
    c.in_ok-to.ensures.number c.requires.exploring.states
    (back_new c.args.graph.now c.args.union.now s.nodes s.steps c.args.exit c.args.before c.args.call c.args.letter x c.requires.exploring c.requires.exit c.requires.before
    c.requires.open_exit c.requires.open_before c.requires.call_kind c.requires.kind c.requires.called c.requires.names c.requires.edge (sym (ap (λ (y : OutlineNode). y.entry) at)) f)
    c.link_back-2.ensures

pub link_back-requires : goal.link_back-requires
link_back-requires c =
    let s : Stage = stage_of c.args.search.now in
    let w : IsWeaker s.nodes c.args.place c.index-caller.result.now.entry c.deref-4.result.now c.in-Some.to =
    subst (λ (l : List Spot). IsWeaker (nodes_of l) c.args.place c.index-caller.result.now.entry c.deref-4.result.now c.in-Some.to) c.deref-3.ensures.value c.in-Some.ensures in
    links.back_there s c.args.exit c.args.before c.in-Some.to c.args.letter c.requires.exploring.states c.requires.exit c.requires.before w.there c.requires.kind

pub link_back-requires-2 : goal.link_back-requires-2
link_back-requires-2 c =
    links.back_new (stage_of c.args.search.now) (stage_of c.add.new.self) _ c.args.exit c.args.before c.in_ok-to.to c.args.letter c.in_ok-to.ensures.stage c.in_ok-to.ensures.number
    c.requires.exploring.states c.requires.exit c.requires.before c.requires.kind
