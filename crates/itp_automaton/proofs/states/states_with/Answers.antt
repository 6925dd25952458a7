use Rattle.std.proofs.Common.{[], List, sym, subst}
use Rattle.triple_rows.specs.declared.triples.Scoped.{Scoped}
use Rattle.itp_automaton.specs.Making.{AreStates}
use Rattle.itp_automaton.proofs.StateLaws.{states_more, truths_are_states}
use Rattle.itp_automaton.proofs.states.states_with.Goals as goal

pub loop-pred-init : goal.loop-pred-init
loop-pred-init c = subst (λ (l : List Scoped). AreStates c.args.procedures [] l) (sym c.in_ok-states.ensures) (truths_are_states c.args.procedures)

pub loop-pred-preserved : goal.loop-pred-preserved
loop-pred-preserved c = states_more c.args.procedures c.loop-pred.yielded c.in-Some.pred c.loop-pred.states c.add_state.new.states c.loop-pred.invariant c.in_ok-add_state.ensures
