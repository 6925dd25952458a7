use Rattle.std.proofs.Common.{map, take}
use Rattle.nested_itp.proofs.TripleWalks.PuttingLaws.{AreMade, source_at}
use Rattle.nested_itp.proofs.triple_walks.putting.claims_of.Given as goal

abbrev pub invariant-loop-i : goal.invariant-loop-i
invariant-loop-i l = AreMade l.tree (map source_at (take l.i l.step.sources.items)) l.claims.items
