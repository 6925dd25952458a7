use Rattle.std.proofs.Common.{◌≡◌, ◌++◌, take}
use Rattle.nwa_reduce.proofs.imaging.add_insides.Given as goal

abbrev pub invariant-loop-state : goal.invariant-loop-state
invariant-loop-state l = l.image ≡ record l.initial.image { insides = l.initial.image.insides ++ take l.state-index l.edges }
