use Rattle.std.proofs.Common.{◌≡◌, ◌+◌, ◌-◌, ℕ, length}
use Rattle.nwa_reduce.specs.Ties.Rows.{row_of}
use Rattle.nwa_reduce.proofs.rows.Rows.reach.Given as goal

abbrev pub invariant-loop-self : goal.invariant-loop-self
invariant-loop-self g l = (q : ℕ) → row_of l.self.rows.items q ≡ row_of l.initial.self.rows.items q

abbrev pub decreases-loop-self : goal.decreases-loop-self
decreases-loop-self g l = l.row + 1 - length l.self.rows.items
