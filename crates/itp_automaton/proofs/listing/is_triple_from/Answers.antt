use Rattle.std.proofs.Common.{◌≡◌, ◌∙◌, length, ap, subst}
use Rattle.triple_rows.specs.declared.triples.Scoped.{Scoped}
use Rattle.triple_rows.specs.declared.triples.Triple.TheVariants as triples
use Rattle.itp_automaton.specs.declared.sources.Source.{Source}
use Rattle.itp_automaton.specs.Settling.{IsWithin, state_at, triple_from}
use Rattle.itp_automaton.proofs.StateLaws.{got_at}
use Rattle.itp_automaton.proofs.SourceLaws.{state_stands}
use Rattle.itp_automaton.proofs.listing.is_triple_from.Goals as goal

pub returns-in-Inside : goal.returns-in-Inside
returns-in-Inside c = λ yes.
    let states = c.args.states.now in
    let q = c.in-Inside.q in
    let s = c.index-states-q.result in
    let w = subst (IsWithin (length states)) c.in-Inside.is c.requires in
    let here : state_at states q ≡ s = state_stands states q s (got_at states q s w c.index-states-q.is) in
    ap (λ (x : Source). triple_from states x c.args.letter c.args.after.now) c.in-Inside.is ∙ ap (λ (x : Scoped). triples.Inside x c.args.letter c.args.after.now) here ∙ c.is_inside.ensures yes

pub returns-in-Call : goal.returns-in-Call
returns-in-Call c = λ yes.
    let states = c.args.states.now in
    let q = c.in-Call.q in
    let s = c.index-states-q-in-Call.result in
    let w = subst (IsWithin (length states)) c.in-Call.is c.requires in
    let here : state_at states q ≡ s = state_stands states q s (got_at states q s w c.index-states-q-in-Call.is) in
    ap (λ (x : Source). triple_from states x c.args.letter c.args.after.now) c.in-Call.is ∙ ap (λ (x : Scoped). triples.Call x c.args.letter c.args.after.now) here ∙ c.is_call.ensures yes

pub returns-in-Back : goal.returns-in-Back
returns-in-Back c = λ yes.
    let states = c.args.states.now in
    let q = c.in-Back.q in
    let p = c.in-Back.p in
    let s = c.index-states-q-in-Back.result in
    let b = c.index-states-p.result in
    let w = subst (IsWithin (length states)) c.in-Back.is c.requires in
    let here : state_at states q ≡ s = state_stands states q s (got_at states q s w.0 c.index-states-q-in-Back.is) in
    let there : state_at states p ≡ b = state_stands states p b (got_at states p b w.1 c.index-states-p.is) in
    ap (λ (x : Source). triple_from states x c.args.letter c.args.after.now) c.in-Back.is ∙ ap (λ (x : Scoped). triples.Back x (state_at states p) c.args.letter c.args.after.now) here ∙
    ap (λ (x : Scoped). triples.Back s x c.args.letter c.args.after.now) there ∙ c.is_back.ensures yes
