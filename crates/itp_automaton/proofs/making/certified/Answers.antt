use Rattle.std.proofs.Common.{ℕ, subst}
use Rattle.itp_automaton.specs.Making.{AreStates}
use Rattle.itp_automaton.proofs.MakingLaws.{frame_count, named_alike, built_states, found_so, some_so}
use Rattle.itp_automaton.proofs.making.certified.Goals as goal

pub returns-clause-found : goal.returns-clause-found
returns-clause-found c =
    let count = frame_count c.frames.result.now c.args.icfg.now.frames c.frames.ensures.value in
    let states = subst (λ (n : ℕ). AreStates n c.args.preds.items c.in_ok-states.states) count c.in_ok-states.ensures in
    found_so c.assembled.result _ _ (named_alike c.args.icfg.now c.args.preds.items c.in_ok-states.states states c.args.proofs.items c.requires) c.assembled.ensures.found

pub returns-clause-states : goal.returns-clause-states
returns-clause-states c =
    let count = frame_count c.frames.result.now c.args.icfg.now.frames c.frames.ensures.value in
    let states = subst (λ (n : ℕ). AreStates n c.args.preds.items c.in_ok-states.states) count c.in_ok-states.ensures in
    some_so c.assembled.result _ _ _ (λ x e k. built_states c.args.icfg.now c.args.preds.items c.in_ok-states.states states c.args.proofs.items x e k) c.assembled.ensures.preds c.assembled.ensures.built
