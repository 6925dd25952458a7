use Rattle.std.proofs.Common.{◌≡◌, map}
use Rattle.std.specs.List.{flat_map}
use Rattle.proof_reuse.proofs.choosing.with_exits.Given as goal

abbrev pub invariant-loop-exit : goal.invariant-loop-exit
invariant-loop-exit l = l.found.items ≡ flat_map (λ x. map (λ b. (x, b, l.to)) l.befores) l.yielded
