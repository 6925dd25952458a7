use Rattle.std.proofs.Common.{take}
use Rattle.nwa_difference.specs.Covering.{InsideGoesOn}
use Rattle.nwa_difference.proofs.FollowLemmas.{Each}
use Rattle.nwa_difference.proofs.covering.insides_go_on.Given as goal

abbrev pub invariant-loop-edge : goal.invariant-loop-edge
invariant-loop-edge l = Each (take l.edge-index l.edge-items) (InsideGoesOn l.first l.second l.covers)
