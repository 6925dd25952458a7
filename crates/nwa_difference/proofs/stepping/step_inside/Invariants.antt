use Rattle.std.proofs.Common.{take}
use Rattle.nwa_base.specs.Members.{Member}
use Rattle.nwa_difference.specs.Ties.Stages.{Goes}
use Rattle.nwa_difference.specs.Ties.Seen.{stage}
use Rattle.nwa_difference.proofs.FollowLemmas.{Followed}
use Rattle.nwa_difference.proofs.stepping.step_inside.Given as goal

abbrev pub invariant-loop-end : goal.invariant-loop-end
invariant-loop-end l =
    Followed Goes (λ s e. Member s.found.pairs (l.entry, e.2)) (stage l.product l.initial.pairs) (stage l.product l.pairs) (take l.end-index l.end-items)
