use Rattle.std.proofs.Common.{◌≡◌, ◌-◌, ◌^◌}
use Rattle.nwa_difference.specs.Ties.Stages.{IsStage}
use Rattle.nwa_difference.specs.Ties.Seen.{seen, stage}
use Rattle.nwa_difference.proofs.DoneLemmas.{IsDone}
use Rattle.nwa_difference.proofs.making.expand_all.Given as goal

abbrev pub invariant-loop-entry : goal.invariant-loop-entry
invariant-loop-entry l = record {
  valid : IsStage (stage l.product l.pairs);
  first : (seen l.product).first ≡ (seen l.fn.product).first;
  second : (seen l.product).sets.nwa ≡ (seen l.fn.product).sets.nwa;
  done : IsDone (stage l.product l.pairs) l.place;
}

abbrev pub decreases-loop-entry : goal.decreases-loop-entry
decreases-loop-entry l = 2 ^ 64 - l.place
