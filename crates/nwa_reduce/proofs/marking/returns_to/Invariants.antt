use Rattle.std.proofs.Common.{◌≡◌, ◌++◌, ℕ, drop}
use Rattle.nwa_reduce.specs.Ties.Rows.{row_of}
use Rattle.nwa_reduce.specs.Ties.Marks.{backs_before}
use Rattle.nwa_reduce.proofs.marking.returns_to.Given as goal

abbrev pub invariant-loop-edge : goal.invariant-loop-edge
invariant-loop-edge l = (p : ℕ) → row_of l.groups.rows.items p ++ backs_before p (drop l.edge-index l.edge-items) ≡ backs_before p l.edge-items
