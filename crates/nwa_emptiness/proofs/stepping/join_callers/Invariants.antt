use Rattle.std.proofs.Common.{take}
use Rattle.nwa_emptiness.specs.Ties.Seen.{seen}
use Rattle.nwa_emptiness.specs.Ties.Steps.{Joined}
use Rattle.nwa_emptiness.proofs.StepLemmas.{Followed}
use Rattle.nwa_emptiness.proofs.stepping.join_callers.Given as goal

abbrev pub invariant-loop-outer : goal.invariant-loop-outer
invariant-loop-outer l =
    Followed (seen l.initial.search) (seen l.search) (take l.outer-index l.outer-items) (λ s i. Joined (seen l.initial.search) s i l.exit)
