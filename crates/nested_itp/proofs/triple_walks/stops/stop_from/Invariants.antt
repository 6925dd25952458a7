use Rattle.std.proofs.Common.{◌≡◌, ℕ, List, map, reverse}
use Rattle.farkas_check.specs.Nodes.{PlainNode}
use Rattle.nested_itp.specs.NestedRefutations.Refutations as refutations
use Rattle.nested_itp.specs.NestedRefutations.Refutations.{View, stops_at}
use Rattle.nested_itp.specs.TripleWalks.Stops.{taken_of, IsPlace}
use Rattle.nested_itp.proofs.TripleWalks.StopLaws.{IsOnWay}
use Rattle.nested_itp.proofs.triple_walks.stops.stop_from.Given as goal

abbrev pub invariant-loop-i : goal.invariant-loop-i
invariant-loop-i l = (v : View) (nodes : List PlainNode) (rows : ℕ) (s : refutations.TreeSpot) → v.returns ≡ l.returns → IsPlace v.columns nodes l.tree v.claims l.claims rows s l.fn.from →
    IsOnWay v (reverse (map taken_of l.taken)) nodes l.tree l.claims rows (stops_at v (reverse (map taken_of l.taken)) s) l.spot
