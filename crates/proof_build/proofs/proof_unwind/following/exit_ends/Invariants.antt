use Rattle.std.proofs.Common.{◌≡◌, take}
use Rattle.std.specs.List.{flat_map}
use Rattle.nwa_base.specs.Edges.{back_ends}
use Rattle.proof_build.proofs.proof_unwind.following.exit_ends.Given as goal

abbrev pub invariant-loop-caller : goal.invariant-loop-caller
invariant-loop-caller l = l.targets.items ≡ flat_map (λ p. back_ends l.exit p l.letter l.union.backs) (take l.caller-index l.callers)
