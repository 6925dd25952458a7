use Rattle.std.proofs.Common.{length, ◌-◌, ◌≤◌, ◌<◌, take}
use Rattle.lin_rows.specs.Rows.{AscendsFrom}
use Rattle.lin_rows.proofs.make.ascending_len.Given as goal

abbrev pub invariant-loop-end : goal.invariant-loop-end
invariant-loop-end l = record { some : 0 < l.end; within : l.end ≤ length l.terms; ascends : AscendsFrom 0 (take l.end l.terms) }

abbrev pub decreases-loop-end : goal.decreases-loop-end
decreases-loop-end l = length l.terms - l.end
