use Rattle.std.proofs.Common.{◌≡◌, ◌∙◌, ap}
use Rattle.std.specs.Prelude.{slice_index}
use Rattle.nwa_base.specs.declared.letters.Kind.TheVariants.{Inside, Call}
use Rattle.nwa_base.specs.Automata.{Automaton}
use Rattle.proof_build.proofs.ProofUnwind.LinkLaws.{edges_of, backs_of, within_of}
use Rattle.proof_build.proofs.proof_unwind.ordering.move_steps.Goals as goal

pub move_insides-requires-clause-edges : goal.move_insides-requires-clause-edges
move_insides-requires-clause-edges c = edges_of _ _ Inside _ _ c.requires.states c.insides.ensures c.requires.automaton.insides

pub move_insides-requires-clause-within : goal.move_insides-requires-clause-within
move_insides-requires-clause-within c = within_of _ _ (slice_index c.args.ranks.now) c.requires.states c.requires.within

pub move_calls-requires-clause-edges : goal.move_calls-requires-clause-edges
move_calls-requires-clause-edges c =
    let states : c.move_insides.new.steps.states ≡ c.args.from.now.states = ap (λ (m : Automaton). m.states) c.in_ok-move_insides.ensures ∙ c.requires.states in
    edges_of _ _ Call _ _ states c.calls.ensures c.requires.automaton.calls

pub move_calls-requires-clause-within : goal.move_calls-requires-clause-within
move_calls-requires-clause-within c =
    let states : c.move_insides.new.steps.states ≡ c.args.from.now.states = ap (λ (m : Automaton). m.states) c.in_ok-move_insides.ensures ∙ c.requires.states in
    within_of _ _ (slice_index c.args.ranks.now) states c.requires.within

pub move_backs-requires-clause-edges : goal.move_backs-requires-clause-edges
move_backs-requires-clause-edges c =
    let states : c.move_calls.new.steps.states ≡ c.args.from.now.states =
    ap (λ (m : Automaton). m.states) c.in_ok-move_calls.ensures ∙ ap (λ (m : Automaton). m.states) c.in_ok-move_insides.ensures ∙ c.requires.states in
    backs_of _ _ _ _ states c.backs.ensures c.requires.automaton.backs

pub move_backs-requires-clause-within : goal.move_backs-requires-clause-within
move_backs-requires-clause-within c =
    let states : c.move_calls.new.steps.states ≡ c.args.from.now.states =
    ap (λ (m : Automaton). m.states) c.in_ok-move_calls.ensures ∙ ap (λ (m : Automaton). m.states) c.in_ok-move_insides.ensures ∙ c.requires.states in
    within_of _ _ (slice_index c.args.ranks.now) states c.requires.within
