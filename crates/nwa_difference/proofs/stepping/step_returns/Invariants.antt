use Rattle.std.proofs.Common.{take}
use Rattle.nwa_difference.specs.Ties.Stages.{Goes}
use Rattle.nwa_difference.specs.Ties.Seen.{stage}
use Rattle.nwa_difference.proofs.FollowLemmas.{Followed}
use Rattle.nwa_difference.proofs.StepLemmas.{CallerFollowed}
use Rattle.nwa_difference.proofs.stepping.step_returns.Given as goal

abbrev pub invariant-loop-before : goal.invariant-loop-before
invariant-loop-before l =
    Followed Goes (CallerFollowed (stage l.initial.product l.initial.pairs) l.state) (stage l.initial.product l.initial.pairs) (stage l.product l.pairs)
    (take l.before-index l.before-items)
