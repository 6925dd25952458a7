use Rattle.std.proofs.Common.{◌≡◌, ◌∙◌, ℕ, List, sym, ap, subst}
use Rattle.proof_names.specs.Outlines.{OutlineNode}
use Rattle.proof_build.specs.declared.proof_unwind.spots.Spot.{Spot}
use Rattle.proof_build.specs.ProofUnwind.Unwindings.{node_at}
use Rattle.proof_build.specs.ProofUnwind.Exploring.{CallFollows, AreFollowing, Stage, Called, linked_call}
use Rattle.proof_build.specs.ProofUnwind.Spots.{plain, nodes_of, IsEntryWith}
use Rattle.proof_build.specs.ProofUnwind.Ties.Searches.{stage_of}
use Rattle.proof_build.proofs.ProofUnwind.SpotLaws.{spot_there}
use Rattle.proof_build.proofs.ProofUnwind.SteppingLaws.{call_to, call_new, then_at, then_new}
use Rattle.nwa_base.specs.declared.letters.Kind.TheVariants.{Call}
use Rattle.proof_build.proofs.ProofUnwind.LinkLaws.{edge_there, edge_new}
use Rattle.proof_build.proofs.proof_unwind.stepping.call_step.Goals as goal

pub returns-in-Some : goal.returns-in-Some
returns-in-Some c =
    let s : Stage = stage_of c.args.search.now in
    let at : node_at s.nodes c.args.from ≡ plain c.index-spot.result.now = spot_there c.args.search.now.spots.items c.args.from c.index-spot.result.now c.requires.there c.index-spot.ensures in
    let f : AreFollowing (CallFollows c.args.union.now c.args.letter (node_at s.nodes c.args.from)) c.in_ok-preds.preds.items =
    c.in_ok-preds.ensures (node_at s.nodes c.args.from) (ap (λ (x : OutlineNode). x.preds) at ∙ sym c.deref.ensures.value) in
    let w : IsEntryWith s.nodes c.args.place c.in_ok-preds.preds.items c.in-Some.to =
    subst (λ (l : List ℕ). IsEntryWith s.nodes c.args.place l c.in-Some.to) c.deref-3.ensures.value
    (subst (λ (l : List Spot). IsEntryWith (nodes_of l) c.args.place c.deref-3.result.now c.in-Some.to) c.deref-2.ensures.value c.in-Some.ensures) in
    then_at c.link_call.result (Called c.args.graph.now c.args.union.now c.args.from c.args.letter c.args.place s) (stage_of c.link_call.new.self)
    (linked_call s (c.args.from, c.args.letter, c.in-Some.to))
    (call_to c.args.graph.now c.args.union.now s.nodes s.steps c.args.from c.args.letter c.args.place c.in_ok-preds.preds.items c.in-Some.to c.requires.exploring c.requires.there
    c.requires.opens c.requires.edge f w) c.link_call.ensures

pub returns : goal.returns
returns c =
    let s : Stage = stage_of c.args.search.now in
    let at : node_at s.nodes c.args.from ≡ plain c.index-spot.result.now = spot_there c.args.search.now.spots.items c.args.from c.index-spot.result.now c.requires.there c.index-spot.ensures in
    let f : AreFollowing (CallFollows c.args.union.now c.args.letter (node_at s.nodes c.args.from)) c.in_ok-preds.preds.items =
    c.in_ok-preds.ensures (node_at s.nodes c.args.from) (ap (λ (x : OutlineNode). x.preds) at ∙ sym c.deref.ensures.value) in
    let x : OutlineNode = record { place = c.args.place; entry = c.states-entry.result; preds = c.in_ok-preds.preds.items } in
    then_new c.link_call-2.result (Called c.args.graph.now c.args.union.now c.args.from c.args.letter c.args.place s) (λ t k. linked_call t (c.args.from, c.args.letter, k)) s
    (stage_of c.add.new.self) (stage_of c.link_call-2.new.self) x c.in_ok-to.to c.in_ok-to.ensures.stage c.in_ok-to.ensures.number c.requires.exploring.states
    (call_new c.args.graph.now c.args.union.now s.nodes s.steps c.args.from c.args.letter x c.requires.exploring c.requires.there c.requires.opens c.requires.kind c.requires.edge
    (c.states-entry.ensures.value ∙ c.requires.exploring.states) f) c.link_call-2.ensures

pub link_call-requires : goal.link_call-requires
link_call-requires c =
    let s : Stage = stage_of c.args.search.now in
    let w : IsEntryWith s.nodes c.args.place c.deref-3.result.now c.in-Some.to =
    subst (λ (l : List Spot). IsEntryWith (nodes_of l) c.args.place c.deref-3.result.now c.in-Some.to) c.deref-2.ensures.value c.in-Some.ensures in
    edge_there s Call c.args.from c.in-Some.to c.args.letter c.requires.exploring.states c.requires.there w.there c.requires.kind

pub link_call-requires-2 : goal.link_call-requires-2
link_call-requires-2 c =
    edge_new (stage_of c.args.search.now) (stage_of c.add.new.self) _ Call c.args.from c.in_ok-to.to c.args.letter c.in_ok-to.ensures.stage c.in_ok-to.ensures.number
    c.requires.exploring.states c.requires.there c.requires.kind
