use Rattle.nwa_reduce.specs.Lean.{IsTrim, IsReduced}
use Rattle.nwa_reduce.proofs.reducing.merge.Given as goal

abbrev pub invariant-loop-smaller : goal.invariant-loop-smaller
invariant-loop-smaller l = record { reduced : IsReduced l.fn.kept l.kept; trim : IsTrim l.kept }

abbrev pub decreases-loop-smaller : goal.decreases-loop-smaller
decreases-loop-smaller l = l.kept.states
