use Rattle.itp_automaton.specs.Making.{AreStates}
use Rattle.itp_automaton.proofs.states.states_with.Given as goal

abbrev pub invariant-loop-pred : goal.invariant-loop-pred
invariant-loop-pred l = AreStates l.procedures l.yielded l.states
