use Rattle.std.proofs.Common.{◌≡◌, Ok, map}
use Rattle.itp_automaton.proofs.settling.gathered.Given as goal

abbrev pub invariant-loop-answer : goal.invariant-loop-answer
invariant-loop-answer l = map Ok l.found.items ≡ l.yielded
