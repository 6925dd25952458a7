use Rattle.nested_itp.specs.TripleWalks.Goals.{plain_goal}
use Rattle.nested_itp.specs.NestedRefutations.Refutations.{View, Gathered, TreeSpot, stops_at}
use Rattle.nested_itp.specs.NestedRefutations.Waiting.{GroupsWait}
use Rattle.nested_itp.specs.TripleWalks.Ties.Walking.{IsLed, IsAtHand, IsThere, HasCome}
use Rattle.nested_itp.proofs.triple_walks.walks.run.Given as goal

abbrev pub invariant-loop-i : goal.invariant-loop-i
invariant-loop-i l = (v : View) (h : Gathered) (s : TreeSpot) → IsLed v l.guide → IsAtHand v l.guide h (plain_goal l.fn.goal) → IsThere v l.guide s (record { node = 0; depth = 0 }) → GroupsWait v h (stops_at v h.taken s) → HasCome v l.guide h (stops_at v h.taken s) l.walk
