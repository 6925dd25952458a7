use Rattle.std.proofs.Common.{◌≡◌, ◌++◌, take}
use Rattle.nwa_reduce.proofs.imaging.add_finals.Given as goal

abbrev pub invariant-loop-state : goal.invariant-loop-state
invariant-loop-state l = l.image ≡ record l.initial.image { finals = l.initial.image.finals ++ take l.state-index l.states }
