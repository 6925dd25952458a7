use Rattle.std.proofs.Common.{take}
use Rattle.nwa_emptiness.specs.Ties.Seen.{seen}
use Rattle.nwa_emptiness.specs.Ties.Steps.{CallersJoined}
use Rattle.nwa_emptiness.proofs.StepLemmas.{Followed}
use Rattle.nwa_emptiness.proofs.stepping.step_returns.Given as goal

abbrev pub invariant-loop-before : goal.invariant-loop-before
invariant-loop-before l =
    Followed (seen l.initial.search) (seen l.search) (take l.before-index l.before-items)
    (λ s e. CallersJoined (seen l.initial.search) s e.0 l.exit)
