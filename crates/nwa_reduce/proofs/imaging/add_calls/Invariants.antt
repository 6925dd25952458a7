use Rattle.std.proofs.Common.{◌≡◌, ◌++◌, take}
use Rattle.nwa_reduce.proofs.imaging.add_calls.Given as goal

abbrev pub invariant-loop-state : goal.invariant-loop-state
invariant-loop-state l = l.image ≡ record l.initial.image { calls = l.initial.image.calls ++ take l.state-index l.edges }
