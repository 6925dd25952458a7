use Rattle.std.proofs.Common.{◌≡◌, ◌∙◌, sym, ap, subst}
use Rattle.letter_acts.specs.Invariant.{alphabet_of}
use Rattle.triple_rows.specs.declared.triples.Scoped.{Scoped}
use Rattle.triple_rows.specs.declared.triples.Triple.{Triple}
use Rattle.triple_rows.specs.Triples.{Agrees}
use Rattle.triple_rows.specs.Cuts.{columns_of}
use Rattle.triple_rows.specs.Halves.{said_after}
use Rattle.hoare_check.specs.Halves.{IsTargetHalf}
use Rattle.itp_automaton.specs.Settling.{state_at, triple_from}
use Rattle.itp_automaton.proofs.StateLaws.{got_at}
use Rattle.itp_automaton.proofs.SourceLaws.{state_stands}
use Rattle.itp_automaton.proofs.settling.target_at.Goals as goal

pub target_half-requires : goal.target_half-requires
target_half-requires c =
    let al = alphabet_of c.args.icfg.now in
    let states = c.args.states.now in
    let s = c.index-states-q.result in
    let here : state_at states c.args.q ≡ s = state_stands states c.args.q s (got_at states c.args.q s c.requires.state.below c.index-states-q.is) in
    let same = c.in_ok-triple.ensures ∙ ap (λ (x : Scoped). triple_from states c.args.source c.args.letter x) (sym here) in
    subst (Agrees al) (sym same) (c.requires.agrees (state_at states c.args.q) c.requires.state.scoped)

pub returns-clause-target : goal.returns-clause-target
returns-clause-target c =
    let al = alphabet_of c.args.icfg.now in
    let states = c.args.states.now in
    let s = c.index-states-q.result in
    let here : state_at states c.args.q ≡ s = state_stands states c.args.q s (got_at states c.args.q s c.requires.state.below c.index-states-q.is) in
    let same = c.in_ok-triple.ensures ∙ ap (λ (x : Scoped). triple_from states c.args.source c.args.letter x) (sym here) in
    let triple = c.in_ok-triple.triple in
    record {
      state = c.requires.state;
      half = subst (λ (t : Triple). IsTargetHalf al t c.in_ok-half.half) same (c.in_ok-half.ensures (columns_of al triple) (said_after al triple) c.in_ok-made.ensures);
    }
