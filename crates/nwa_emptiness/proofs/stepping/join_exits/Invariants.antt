use Rattle.std.proofs.Common.{take}
use Rattle.nwa_emptiness.specs.Ties.Seen.{seen}
use Rattle.nwa_emptiness.specs.Ties.Steps.{Joined}
use Rattle.nwa_emptiness.proofs.StepLemmas.{Followed}
use Rattle.nwa_emptiness.proofs.stepping.join_exits.Given as goal

abbrev pub invariant-loop-exit : goal.invariant-loop-exit
invariant-loop-exit l =
    Followed (seen l.initial.search) (seen l.search) (take l.exit-index l.exit-items) (λ s j. Joined (seen l.initial.search) s l.outer j)
