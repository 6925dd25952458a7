use Rattle.std.proofs.Common.{take}
use Rattle.nwa_difference.specs.Ties.Stages.{Goes, BacksFollowed}
use Rattle.nwa_difference.specs.Ties.Seen.{stage}
use Rattle.nwa_difference.proofs.FollowLemmas.{Followed}
use Rattle.nwa_difference.proofs.stepping.join_callers.Given as goal

abbrev pub invariant-loop-entry : goal.invariant-loop-entry
invariant-loop-entry l =
    Followed Goes (λ s j. BacksFollowed s j l.before l.state) (stage l.initial.product l.initial.pairs) (stage l.product l.pairs) (take l.entry-index l.entry-items)
