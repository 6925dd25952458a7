use Rattle.std.proofs.Common.{◌≡◌, take}
use Rattle.std.specs.Prelude.{map}
use Rattle.proof_names.specs.Outlines.{node}
use Rattle.proof_build.specs.ProofUnwind.Spots.{plain}
use Rattle.proof_build.proofs.spots.named_nodes.Given as goal

abbrev pub invariant-loop-spot : goal.invariant-loop-spot
invariant-loop-spot l = map node l.nodes.items ≡ map plain (take l.spot-index l.spots)
