use Rattle.std.proofs.Common.{◌≡◌, take}
use Rattle.nwa_difference.specs.Covering.{BackGoesOn}
use Rattle.nwa_difference.proofs.FollowLemmas.{Each}
use Rattle.nwa_difference.proofs.covering.backs_go_on.Given as goal

abbrev pub invariant-loop-edge : goal.invariant-loop-edge
invariant-loop-edge l = record {
  same : l.returning ≡ l.second;
  each : Each (take l.edge-index l.edge-items) (BackGoesOn l.first l.second l.covers);
}
