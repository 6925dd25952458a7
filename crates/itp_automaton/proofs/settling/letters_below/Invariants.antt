use Rattle.itp_automaton.specs.Settling.{AreAllBelow}
use Rattle.itp_automaton.proofs.settling.letters_below.Given as goal

abbrev pub invariant-loop-letter : goal.invariant-loop-letter
invariant-loop-letter l = AreAllBelow l.letter l.letters.items
