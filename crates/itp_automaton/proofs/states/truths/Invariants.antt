use Rattle.std.proofs.Common.{◌≡◌}
use Rattle.itp_automaton.specs.Ties.States.{truths_below}
use Rattle.itp_automaton.proofs.states.truths.Given as goal

abbrev pub invariant-loop-proc : goal.invariant-loop-proc
invariant-loop-proc l = l.states ≡ truths_below l.proc
