use Rattle.std.proofs.Common.{◌+◌, ◌*◌, length}
use Rattle.lin_rows.specs.Points.{point_of}
use Rattle.triple_rows.specs.Reading.{IsRest}
use Rattle.triple_rows.proofs.HoldingLaws.{AreHeld}
use Rattle.triple_rows.proofs.holding.+trees.Given as goal

abbrev pub decreases-tree_holds : goal.decreases-tree_holds
decreases-tree_holds l = 2 * length l.nodes.now

abbrev pub decreases-parts_hold : goal.decreases-parts_hold
decreases-parts_hold l = 2 * length l.nodes.now + 1

abbrev pub invariant-parts_hold-loop-i : goal.invariant-parts_hold-loop-i
invariant-parts_hold-loop-i l = IsRest l._i l.nodes l.rest × AreHeld (point_of l.values) l._i l.nodes l.all l.one
