use Rattle.std.proofs.Common.{◌≡◌, ◌∙◌, sym, ap, subst}
use Rattle.rayon.proofs.ListFacts.{IfOk-then}
use Rattle.letter_acts.specs.Invariant.{alphabet_of}
use Rattle.triple_rows.specs.declared.triples.Scoped.{Scoped}
use Rattle.triple_rows.specs.declared.triples.Triple.{Triple}
use Rattle.triple_rows.specs.Triples.{Agrees}
use Rattle.triple_rows.specs.Cuts.{columns_of}
use Rattle.triple_rows.specs.Halves.{said_before}
use Rattle.hoare_check.specs.Halves.{IsSourceHalf}
use Rattle.itp_automaton.specs.Settling.{state_at, triple_from}
use Rattle.itp_automaton.proofs.StateLaws.{got_at}
use Rattle.itp_automaton.proofs.SourceLaws.{state_stands}
use Rattle.itp_automaton.proofs.SettlingLaws.{source_half_of}
use Rattle.itp_automaton.proofs.settling.source_at.Goals as goal

pub source_half-requires : goal.source_half-requires
source_half-requires c =
    let states = c.args.states.now in
    let s = c.index-states-sample.result in
    let here : state_at states c.args.sample ≡ s = state_stands states c.args.sample s (got_at states c.args.sample s c.requires.state.below c.index-states-sample.is) in
    let same = c.in_ok-triple.ensures ∙ ap (λ (x : Scoped). triple_from states c.args.source c.args.letter x) (sym here) in
    subst (Agrees (alphabet_of c.args.icfg.now)) (sym same) (c.requires.agrees (state_at states c.args.sample) c.requires.state.scoped)

pub returns : goal.returns
returns c =
    let al = alphabet_of c.args.icfg.now in
    let triple = c.in_ok-triple.triple in
    IfOk-then c.with_falsum.result _ _ c.with_falsum.ensures (λ half h after.
    source_half_of al c.args.states.now c.args.source c.args.letter c.index-states-sample.result after half
    (subst (λ (t : Triple). IsSourceHalf al t half) c.in_ok-triple.ensures (h (columns_of al triple) (said_before al triple) c.in_ok-made.ensures)))
