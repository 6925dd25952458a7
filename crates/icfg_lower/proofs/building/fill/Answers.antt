use Rattle.std.proofs.Common.{◌≡◌, ◌∙◌, ap}
use Rattle.nwa_base.specs.declared.letters.Kind.TheVariants.{Inside, Call}
use Rattle.nwa_base.specs.Automata.{Automaton}
use Rattle.icfg_lower.proofs.AutomatonParts.{places_below, edges_of, backs_of}
use Rattle.icfg_lower.proofs.building.fill.Goals as goal

pub set_finals-requires : goal.set_finals-requires
set_finals-requires c = places_below c.args.nwa.now.states c.args.sites.now c.requires.finals

pub add_insides-requires : goal.add_insides-requires
add_insides-requires c =
    let states : c.set_finals.new.nwa.states ≡ c.args.nwa.now.states = ap (λ (m : Automaton). m.states) c.in_ok-set_finals.ensures in
    edges_of _ _ Inside _ _ states c.deref.ensures.value c.requires.insides

pub add_calls-requires : goal.add_calls-requires
add_calls-requires c =
    let states : c.add_insides.new.nwa.states ≡ c.args.nwa.now.states =
    ap (λ (m : Automaton). m.states) c.in_ok-add_insides.ensures ∙ ap (λ (m : Automaton). m.states) c.in_ok-set_finals.ensures in
    edges_of _ _ Call _ _ states c.deref-2.ensures.value c.requires.calls

pub add_backs-requires : goal.add_backs-requires
add_backs-requires c =
    let states : c.add_calls.new.nwa.states ≡ c.args.nwa.now.states =
    ap (λ (m : Automaton). m.states) c.in_ok-add_calls.ensures ∙ ap (λ (m : Automaton). m.states) c.in_ok-add_insides.ensures ∙
    ap (λ (m : Automaton). m.states) c.in_ok-set_finals.ensures in
    backs_of _ _ _ _ states c.deref-3.ensures.value c.requires.backs
