use Rattle.std.proofs.Common.{◌≡◌, drop, map, reverse}
use Rattle.nested_itp.specs.NestedRefutations.Refutations.{taken_at}
use Rattle.nested_itp.specs.TripleWalks.Stops.{taken_of}
use Rattle.nested_itp.proofs.triple_walks.stops.taken_at.Given as goal

abbrev pub invariant-loop-i : goal.invariant-loop-i
invariant-loop-i l = taken_at l.claim l.node (reverse (map taken_of l.taken)) ≡ taken_at l.claim l.node (drop l.i (reverse (map taken_of l.taken)))
