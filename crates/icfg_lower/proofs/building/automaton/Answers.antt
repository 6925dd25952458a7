use Rattle.std.proofs.Common.{◌≡◌, ◌++◌, sym, subst, arith}
use Rattle.letter_acts.specs.Invariant.{site_places}
use Rattle.nwa_base.specs.Automata.{Automaton, IsAutomaton}
use Rattle.icfg_lower.proofs.AutomatonParts.{made_ok}
use Rattle.icfg_lower.proofs.building.automaton.Goals as goal

pub added-requires-clause-state : goal.added-requires-clause-state
added-requires-clause-state c e =
    let none = c.empty.ensures.bad_state.0 e in
    let some = c.requires.start in
    absurd (omega arith)

pub fill-requires : goal.fill-requires
fill-requires c =
    let bare = made_ok c.empty.result c.in_ok-nwa.nwa _ c.in_ok-nwa.ensures c.empty.ensures.value in
    subst (λ (m : Automaton). IsAutomaton (record m { finals = site_places c.args.sites.now; insides = c.args.lettered.now.insides.items; calls = c.args.lettered.now.calls.items; backs = c.args.lettered.now.backs.items }))
    (sym bare) c.requires

pub returns : goal.returns
returns c =
    let bare = made_ok c.empty.result c.in_ok-nwa.nwa _ c.in_ok-nwa.ensures c.empty.ensures.value in
    subst (λ (m : Automaton). c.fill.new.nwa ≡ record m { finals = m.finals ++ site_places c.args.sites.now; insides = m.insides ++ c.args.lettered.now.insides.items; calls = m.calls ++ c.args.lettered.now.calls.items; backs = m.backs ++ c.args.lettered.now.backs.items })
    bare c.in_ok-fill.ensures
