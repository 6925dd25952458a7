use Rattle.std.proofs.Common.{◌≡◌, drop}
use Rattle.nested_itp.specs.TripleWalks.Stops.{counted_by, teller}
use Rattle.nested_itp.proofs.triple_walks.stops.teller.Given as goal

abbrev pub invariant-loop-i : goal.invariant-loop-i
invariant-loop-i l = teller l.returns 0 (counted_by l.tree l.node l.claims) ≡ teller l.returns l.i (drop l.i (counted_by l.tree l.node l.claims))
