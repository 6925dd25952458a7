use Rattle.std.proofs.Common.{◌≡◌, map, take}
use Rattle.std.specs.Prelude.{slice_index}
use Rattle.proof_build.specs.ProofUnwind.Unwindings.{node_at}
use Rattle.proof_build.specs.ProofUnwind.Renumbering.{renamed}
use Rattle.proof_build.specs.ProofUnwind.Spots.{nodes_of}
use Rattle.proof_build.proofs.proof_unwind.ordering.moved_spots.Given as goal

abbrev pub invariant-loop-pair : goal.invariant-loop-pair
invariant-loop-pair l =
    nodes_of l.moved.items ≡ map (λ p. renamed (slice_index l.ranks) (node_at (nodes_of l.spots) p.1)) (take l.pair-index l.order)
