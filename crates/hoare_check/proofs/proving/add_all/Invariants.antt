use Rattle.std.proofs.Common.{◌≡◌, ◌++◌}
use Rattle.hoare_check.proofs.proving.add_all.Given as goal

abbrev pub invariant-loop-answer : goal.invariant-loop-answer
invariant-loop-answer l = l.proofs.items ≡ l.initial.proofs.items ++ l.yielded
