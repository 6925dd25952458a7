use Rattle.std.proofs.Common.{◌≡◌, Bool, MatchBool, List, sym, subst, take}
use Rattle.letter_acts.specs.Invariant.{alphabet_of}
use Rattle.triple_rows.specs.declared.triples.Triple.{Triple}
use Rattle.triple_rows.specs.Proofs.{PlainProof}
use Rattle.itp_automaton.specs.Settling.{NamesStates}
use Rattle.itp_automaton.specs.Ties.Edges.{IsBuilt, AddsEdge}
use Rattle.itp_automaton.proofs.StateLaws.{take_next}
use Rattle.itp_automaton.proofs.BuiltLaws.{proof_added}
use Rattle.itp_automaton.proofs.assembling.add_edges.Goals as goal

pub loop-proof-preserved : goal.loop-proof-preserved
loop-proof-preserved c =
    let al = alphabet_of c.args.icfg.now in
    let states = c.args.states.now in
    let added = subst (λ (x : Bool). MatchBool x (AddsEdge al states c.triple.result.now c.loop-proof.nwa c.add_edge.new.nwa)
    ((NamesStates states c.triple.result.now → ⊥) × (c.add_edge.new.nwa ≡ c.loop-proof.nwa))) c.if-not-branch.false c.in_ok-add_edge.ensures in
    let h = proof_added c.args.icfg.now c.args.states.now (take c.loop-proof.proof-index c.args.proofs.now) c.proof-item.result c.loop-proof.nwa c.add_edge.new.nwa c.loop-proof.invariant
    (subst (λ (t : Triple). AddsEdge al states t c.loop-proof.nwa c.add_edge.new.nwa) c.triple.ensures.value added) in
    subst (λ (l : List PlainProof). IsBuilt c.args.icfg.now c.args.states.now l c.add_edge.new.nwa)
    (sym (take_next c.args.proofs.now c.loop-proof.proof-index c.proof-item.result c.loop-proof-test.true c.proof-item.is)) h
