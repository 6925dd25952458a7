use Rattle.std.proofs.Common.{◌≡◌, take}
use Rattle.std.specs.List.{flat_map}
use Rattle.nwa_base.specs.Edges.{back_ends}
use Rattle.proof_build.proofs.proof_unwind.following.return_ends.Given as goal

abbrev pub invariant-loop-exit : goal.invariant-loop-exit
invariant-loop-exit l = l.targets.items ≡ flat_map (λ q. flat_map (λ p. back_ends q p l.letter l.union.backs) l.callers) (take l.exit-index l.exits)
