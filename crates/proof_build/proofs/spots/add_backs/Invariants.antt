use Rattle.std.proofs.Common.{◌≡◌, ◌++◌, take}
use Rattle.std.specs.Prelude.{map}
use Rattle.proof_build.specs.Unwindings.{back_of}
use Rattle.proof_build.proofs.spots.add_backs.Given as goal

abbrev pub invariant-loop-edge : goal.invariant-loop-edge
invariant-loop-edge l = l.steps.items ≡ l.initial.steps.items ++ map back_of (take l.edge-index l.edges)
