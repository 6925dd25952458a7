use Rattle.std.proofs.Common.{List, sym, subst}
use Rattle.std.specs.List.{AllByRecursion}
use Rattle.letter_acts.specs.Kept.{Keeps}
use Rattle.letter_acts.specs.Invariant.{IsGraph, alphabet_of}
use Rattle.triple_rows.specs.declared.triples.Scoped.{Scoped}
use Rattle.triple_rows.specs.Proofs.{PlainProof}
use Rattle.hoare_check.specs.Decided.{IsProofFor}
use Rattle.itp_automaton.specs.Making.{NameStatesFor, HasStates, HasEdges}
use Rattle.itp_automaton.proofs.RunLaws.{accepts_along, along_states}
use Rattle.itp_automaton.proofs.building.build_along.Goals as goal

pub saturate-requires-clause-proofs : goal.saturate-requires-clause-proofs
saturate-requires-clause-proofs g c κs o =
    subst (AllByRecursion (IsProofFor (alphabet_of c.args.icfg.now))) (sym c.in_ok-known.ensures) c.requires.along.proved

pub saturate-requires-clause-named : goal.saturate-requires-clause-named
saturate-requires-clause-named g c κs o =
    let named = along_states c.args.icfg.now c.args.word.now c.args.preds.now c.args.proofs.now c.requires.along in
    let states = subst (λ (l : List Scoped). NameStatesFor l c.args.proofs.now) (sym c.in_ok-states.ensures) named in
    subst (λ (l : List PlainProof). NameStatesFor c.in_ok-states.states.items l) (sym c.in_ok-known.ensures) states

pub returns-clause-accepts : goal.returns-clause-accepts
unfolding Keeps
returns-clause-accepts g c =
    let k : IsGraph c.args.icfg.now = c.nwa-graph.ensures.valid in
    let made = c.in_ok-saturate.field-0 in
    let states = subst (λ (l : List Scoped). HasStates c.args.icfg.now l made) c.in_ok-states.ensures c.in_ok-saturate.ensures.states in
    let edges = subst (λ (l : List PlainProof). HasEdges (alphabet_of c.args.icfg.now) l made) c.in_ok-known.ensures c.in_ok-saturate.ensures.edges in
    accepts_along c.args.icfg.now c.args.word.now c.args.preds.now c.args.proofs.now made k c.requires.accepted c.requires.along states edges

pub returns-clause-states : goal.returns-clause-states
returns-clause-states g c =
    subst (λ (l : List Scoped). HasStates c.args.icfg.now l c.in_ok-saturate.field-0) c.in_ok-states.ensures c.in_ok-saturate.ensures.states
