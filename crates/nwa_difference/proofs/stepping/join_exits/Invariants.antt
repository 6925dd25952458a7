use Rattle.std.proofs.Common.{take}
use Rattle.nwa_difference.specs.Ties.Stages.{Goes, BacksFollowed}
use Rattle.nwa_difference.specs.Ties.Seen.{stage}
use Rattle.nwa_difference.proofs.FollowLemmas.{Followed}
use Rattle.nwa_difference.proofs.stepping.join_exits.Given as goal

abbrev pub invariant-loop-exit : goal.invariant-loop-exit
invariant-loop-exit l =
    Followed Goes (λ s q. BacksFollowed s l.entry l.state q) (stage l.initial.product l.initial.pairs) (stage l.product l.pairs) (take l.exit-index l.exit-items)
