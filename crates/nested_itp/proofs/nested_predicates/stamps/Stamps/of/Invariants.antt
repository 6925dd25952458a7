use Rattle.nested_itp.proofs.NestedPredicates.StampCounts.{StampsLeft}
use Rattle.nested_itp.proofs.nested_predicates.stamps.Stamps.of.Given as goal

abbrev pub invariant-loop-i : goal.invariant-loop-i
invariant-loop-i l = StampsLeft l.icfg l.letters l.i l.stamps
