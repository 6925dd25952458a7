use Rattle.nwa_reduce.specs.Lean.{IsReduced}
use Rattle.nwa_reduce.proofs.reducing.trim.Given as goal

abbrev pub invariant-loop-smaller : goal.invariant-loop-smaller
invariant-loop-smaller l = IsReduced l.fn.kept l.kept

abbrev pub decreases-loop-smaller : goal.decreases-loop-smaller
decreases-loop-smaller l = l.kept.states
