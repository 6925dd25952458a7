use Rattle.nested_itp.proofs.TripleWalks.SecondLaws.{AreSeconds}
use Rattle.nested_itp.proofs.triple_walks.trees.Tree.of.Given as goal

abbrev pub invariant-loop-i : goal.invariant-loop-i
invariant-loop-i l = AreSeconds l.nodes l.i l.seconds.items l.roots.items
