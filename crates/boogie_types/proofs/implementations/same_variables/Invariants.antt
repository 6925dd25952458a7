use Rattle.std.proofs.Common.{◌≡◌, ◌≤◌, drop, length}
use Rattle.boogie_types.specs.Resolved as resolved
use Rattle.boogie_types.proofs.implementations.same_variables.Given as goal

abbrev pub invariant-loop-number : goal.invariant-loop-number
invariant-loop-number l = record {
  same : resolved.same_variables (drop l.number l.these) (drop l.number l.others) ≡ resolved.same_variables l.these l.others;
  within : l.number ≤ length l.others;
}
