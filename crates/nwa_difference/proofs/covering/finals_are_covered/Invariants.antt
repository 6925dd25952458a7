use Rattle.std.proofs.Common.{take}
use Rattle.nwa_difference.specs.Covering.{cover_in}
use Rattle.nwa_difference.proofs.FollowLemmas.{Each}
use Rattle.nwa_difference.proofs.CoverLemmas.{FinalIsCovered}
use Rattle.nwa_difference.proofs.covering.finals_are_covered.Given as goal

abbrev pub invariant-loop-state : goal.invariant-loop-state
invariant-loop-state l = Each (take l.state-index l.finals) (FinalIsCovered l.second (cover_in l.covers))
