use Rattle.std.proofs.Common.{◌≡◌, ◌++◌}
use Rattle.std.specs.List.{filter_map}
use Rattle.proof_reuse.proofs.settling.keep.Given as goal

abbrev pub invariant-loop-answer : goal.invariant-loop-answer
invariant-loop-answer l = l.proofs.items ≡ l.initial.proofs.items ++ filter_map (λ o. o) l.yielded
