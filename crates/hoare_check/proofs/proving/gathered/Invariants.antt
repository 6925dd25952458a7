use Rattle.std.proofs.Common.{◌≡◌, Ok, map}
use Rattle.hoare_check.proofs.proving.gathered.Given as goal

abbrev pub invariant-loop-answer : goal.invariant-loop-answer
invariant-loop-answer l = map Ok l.answers.items ≡ l.yielded
