use Rattle.std.proofs.Common.{◌≡◌, ◌∙◌, ℕ, List, sym, ap, subst}
use Rattle.proof_names.specs.Outlines.{OutlineNode}
use Rattle.proof_build.specs.declared.proof_unwind.spots.Spot.{Spot}
use Rattle.proof_build.specs.ProofUnwind.Unwindings.{node_at, entry_of}
use Rattle.proof_build.specs.ProofUnwind.Exploring.{InsideFollows, AreFollowing, Stage, Stepped, linked_inside}
use Rattle.proof_build.specs.ProofUnwind.Spots.{plain, nodes_of, IsWeaker}
use Rattle.proof_build.specs.ProofUnwind.Ties.Searches.{stage_of}
use Rattle.proof_build.proofs.ProofUnwind.SpotLaws.{spot_there}
use Rattle.proof_build.proofs.ProofUnwind.SteppingLaws.{inside_to, inside_new, then_at, then_new}
use Rattle.nwa_base.specs.declared.letters.Kind.TheVariants.{Inside}
use Rattle.proof_build.proofs.ProofUnwind.LinkLaws.{edge_there, edge_new}
use Rattle.proof_build.proofs.proof_unwind.stepping.inside_step.Goals as goal

pub returns-in-Some : goal.returns-in-Some
returns-in-Some c =
    let s : Stage = stage_of c.args.search.now in
    let at : node_at s.nodes c.args.from ≡ plain c.index-spot.result.now = spot_there c.args.search.now.spots.items c.args.from c.index-spot.result.now c.requires.there c.index-spot.ensures in
    let f : AreFollowing (InsideFollows c.args.union.now c.args.letter (node_at s.nodes c.args.from)) c.in_ok-preds.preds.items =
    c.in_ok-preds.ensures (node_at s.nodes c.args.from) (ap (λ (x : OutlineNode). x.preds) at ∙ sym c.deref.ensures.value) in
    let w : IsWeaker s.nodes c.args.place c.index-spot.result.now.entry c.in_ok-preds.preds.items c.in-Some.to =
    subst (λ (l : List ℕ). IsWeaker s.nodes c.args.place c.index-spot.result.now.entry l c.in-Some.to) c.deref-3.ensures.value
    (subst (λ (l : List Spot). IsWeaker (nodes_of l) c.args.place c.index-spot.result.now.entry c.deref-3.result.now c.in-Some.to) c.deref-2.ensures.value c.in-Some.ensures) in
    let v : IsWeaker s.nodes c.args.place (entry_of s.nodes c.args.from) c.in_ok-preds.preds.items c.in-Some.to =
    subst (λ (e : ℕ). IsWeaker s.nodes c.args.place e c.in_ok-preds.preds.items c.in-Some.to) (sym (ap (λ (x : OutlineNode). x.entry) at)) w in
    then_at c.link_inside.result (Stepped c.args.graph.now c.args.union.now c.args.from c.args.letter c.args.place s) (stage_of c.link_inside.new.self)
    (linked_inside s (c.args.from, c.args.letter, c.in-Some.to))
    (inside_to c.args.graph.now c.args.union.now s.nodes s.steps c.args.from c.args.letter c.args.place c.in_ok-preds.preds.items c.in-Some.to c.requires.exploring c.requires.there
    c.requires.edge f v) c.link_inside.ensures

pub returns : goal.returns
returns c =
    let s : Stage = stage_of c.args.search.now in
    let at : node_at s.nodes c.args.from ≡ plain c.index-spot.result.now = spot_there c.args.search.now.spots.items c.args.from c.index-spot.result.now c.requires.there c.index-spot.ensures in
    let f : AreFollowing (InsideFollows c.args.union.now c.args.letter (node_at s.nodes c.args.from)) c.in_ok-preds.preds.items =
    c.in_ok-preds.ensures (node_at s.nodes c.args.from) (ap (λ (x : OutlineNode). x.preds) at ∙ sym c.deref.ensures.value) in
    let x : OutlineNode = record { place = c.args.place; entry = c.index-spot.result.now.entry; preds = c.in_ok-preds.preds.items } in
    then_new c.link_inside-2.result (Stepped c.args.graph.now c.args.union.now c.args.from c.args.letter c.args.place s) (λ t k. linked_inside t (c.args.from, c.args.letter, k)) s
    (stage_of c.add.new.self) (stage_of c.link_inside-2.new.self) x c.in_ok-to.to c.in_ok-to.ensures.stage c.in_ok-to.ensures.number c.requires.exploring.states
    (inside_new c.args.graph.now c.args.union.now s.nodes s.steps c.args.from c.args.letter x c.requires.exploring c.requires.there c.requires.opens c.requires.kind c.requires.edge
    (sym (ap (λ (y : OutlineNode). y.entry) at)) f) c.link_inside-2.ensures

pub link_inside-requires : goal.link_inside-requires
link_inside-requires c =
    let s : Stage = stage_of c.args.search.now in
    let w : IsWeaker s.nodes c.args.place c.index-spot.result.now.entry c.deref-3.result.now c.in-Some.to =
    subst (λ (l : List Spot). IsWeaker (nodes_of l) c.args.place c.index-spot.result.now.entry c.deref-3.result.now c.in-Some.to) c.deref-2.ensures.value c.in-Some.ensures in
    edge_there s Inside c.args.from c.in-Some.to c.args.letter c.requires.exploring.states c.requires.there w.there c.requires.kind

pub link_inside-requires-2 : goal.link_inside-requires-2
link_inside-requires-2 c =
    edge_new (stage_of c.args.search.now) (stage_of c.add.new.self) _ Inside c.args.from c.in_ok-to.to c.args.letter c.in_ok-to.ensures.stage c.in_ok-to.ensures.number
    c.requires.exploring.states c.requires.there c.requires.kind
