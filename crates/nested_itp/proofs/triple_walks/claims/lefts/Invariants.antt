use Rattle.nested_itp.proofs.TripleWalks.LeftLaws.{AreLefts}
use Rattle.nested_itp.proofs.triple_walks.claims.lefts.Given as goal

abbrev pub invariant-loop-i : goal.invariant-loop-i
invariant-loop-i l = AreLefts l.tree.table.items l.position l.i l.lefts.items l.roots.items
