use Rattle.std.proofs.Common.{◌≡◌, ◌++◌, map, take}
use Rattle.std.specs.Prelude.{slice_index}
use Rattle.proof_build.specs.ProofUnwind.Renumbering.{moved}
use Rattle.proof_build.proofs.proof_unwind.ordering.move_calls.Given as goal

abbrev pub invariant-loop-from : goal.invariant-loop-from
invariant-loop-from l =
    l.steps ≡ record l.initial.steps { calls = l.initial.steps.calls ++ map (moved (slice_index l.ranks)) (take l.from-index l.edges) }
