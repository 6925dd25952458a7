use Rattle.std.proofs.Common.{nat_eq}
use Rattle.std.specs.HashMap.{get}
use Rattle.std.specs.HashSet.{contains}
use Rattle.nwa_base.specs.Groups.{grouped}
use Rattle.proof_check.proofs.IndexLaws.{Keys, Groups}
use Rattle.proof_check.proofs.EntryLaws.{same_three, step_key, entering_entry}
use Rattle.proof_check.proofs.index.entering_of.Given as goal

abbrev pub invariant-loop-step : goal.invariant-loop-step
invariant-loop-step l = record {
  seen : Keys step_key l.moves l.step-index (contains same_three l.seen);
  entered : Groups entering_entry l.moves l.step-index (λ k. grouped (get nat_eq l.groups.by_key k));
}
