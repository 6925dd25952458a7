use Rattle.nested_itp.proofs.NestedPredicates.WordLaws.{SpotsRead}
use Rattle.nested_itp.proofs.nested_predicates.spots.spots.Given as goal

abbrev pub invariant-loop-i : goal.invariant-loop-i
invariant-loop-i l = SpotsRead l.icfg l.letters l.i l.frames.items l.spots.items
