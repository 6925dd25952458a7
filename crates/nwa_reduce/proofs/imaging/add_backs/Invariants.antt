use Rattle.std.proofs.Common.{◌≡◌, ◌++◌, take}
use Rattle.nwa_reduce.proofs.imaging.add_backs.Given as goal

abbrev pub invariant-loop-state : goal.invariant-loop-state
invariant-loop-state l = l.image ≡ record l.initial.image { backs = l.initial.image.backs ++ take l.state-index l.edges }
