use Rattle.std.proofs.Common.{take}
use Rattle.nwa_difference.specs.Ties.Stages.{Goes}
use Rattle.nwa_difference.specs.Ties.Seen.{stage}
use Rattle.nwa_difference.proofs.FollowLemmas.{Followed}
use Rattle.nwa_difference.proofs.StepLemmas.{CallFollowed}
use Rattle.nwa_difference.proofs.stepping.step_calls.Given as goal

abbrev pub invariant-loop-inner : goal.invariant-loop-inner
invariant-loop-inner l =
    Followed Goes (CallFollowed (stage l.initial.product l.initial.pairs) l.entry l.state) (stage l.initial.product l.initial.pairs) (stage l.product l.pairs)
    (take l.inner-index l.inner-items)
