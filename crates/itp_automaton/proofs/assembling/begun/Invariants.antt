use Rattle.itp_automaton.specs.Ties.Edges.{IsMarkedBelow}
use Rattle.itp_automaton.proofs.assembling.begun.Given as goal

abbrev pub invariant-loop-q : goal.invariant-loop-q
invariant-loop-q l = IsMarkedBelow l.q l.start l.states l.nwa
