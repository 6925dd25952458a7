use Rattle.std.proofs.Common.{◌-◌}
use Rattle.cond_jumps.specs.Ties.Totals.{terms_of}
use Rattle.cond_jumps.proofs.TotalLemmas.{AreBelow}
use Rattle.cond_jumps.proofs.totals.totals.Given as goal

abbrev pub invariant-loop-column : goal.invariant-loop-column
invariant-loop-column l = AreBelow (terms_of l.terms) l.sums.items l.low

abbrev pub decreases-loop-column : goal.decreases-loop-column
decreases-loop-column l = 4294967296 - l.low
