use Rattle.std.proofs.Common.{take, Some}
use Rattle.nwa_base.specs.Members.{Member}
use Rattle.nwa_emptiness.specs.Ties.Seen.{seen}
use Rattle.nwa_emptiness.specs.Ties.Steps.{ExitsJoined}
use Rattle.nwa_emptiness.proofs.StepLemmas.{Followed}
use Rattle.nwa_emptiness.proofs.stepping.step_calls.Given as goal

abbrev pub invariant-loop-call : goal.invariant-loop-call
invariant-loop-call l =
    Followed (seen l.initial.search) (seen l.search) (take l.call-index l.call-items)
    (λ s e. Member s.pairs (Some e.2, e.2) × ExitsJoined (seen l.initial.search) s l.point.place e.2)
