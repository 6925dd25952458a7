use Rattle.std.proofs.Common.{length}
use Rattle.int_decide.specs.Ties.Picking.{ArePicked}
use Rattle.int_decide.proofs.picking.are_picked.Given as goal

abbrev pub invariant-loop-left : goal.invariant-loop-left
invariant-loop-left l = ArePicked l.rows.items l.column l.left → ArePicked l.fn.rows.items 0 l.fn.values

abbrev pub decreases-loop-left : goal.decreases-loop-left
decreases-loop-left l = length l.left
