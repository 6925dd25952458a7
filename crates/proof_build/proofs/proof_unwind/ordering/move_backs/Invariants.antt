use Rattle.std.proofs.Common.{◌≡◌, ◌++◌, map, take}
use Rattle.std.specs.Prelude.{slice_index}
use Rattle.proof_build.specs.ProofUnwind.Renumbering.{moved_back}
use Rattle.proof_build.proofs.proof_unwind.ordering.move_backs.Given as goal

abbrev pub invariant-loop-exit : goal.invariant-loop-exit
invariant-loop-exit l =
    l.steps ≡ record l.initial.steps { backs = l.initial.steps.backs ++ map (moved_back (slice_index l.ranks)) (take l.exit-index l.edges) }
