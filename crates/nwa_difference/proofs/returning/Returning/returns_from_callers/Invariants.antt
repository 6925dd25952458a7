use Rattle.std.proofs.Common.{◌≡◌, take}
use Rattle.nwa_difference.specs.Covering.{ReturnsFromAll}
use Rattle.nwa_difference.proofs.FollowLemmas.{Each}
use Rattle.nwa_difference.proofs.returning.Returning.returns_from_callers.Given as goal

abbrev pub invariant-loop-call : goal.invariant-loop-call
invariant-loop-call l = record {
  same : l.self ≡ l.fn.self;
  each : Each (take l.call-index l.call-items) (λ x. ReturnsFromAll l.fn.self x.1 l.state l.letter l.end);
}
