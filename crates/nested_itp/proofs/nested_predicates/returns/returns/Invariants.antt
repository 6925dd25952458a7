use Rattle.std.proofs.Common.{◌≡◌, ◌≤◌, ◌-◌, reverse, length, drop}
use Rattle.nested_itp.specs.NestedPredicates.Walking.{unmatched, return_tests}
use Rattle.nested_itp.proofs.nested_predicates.returns.returns.Given as goal

abbrev pub invariant-loop-i : goal.invariant-loop-i
invariant-loop-i l = record {
  count : l.unmatched ≤ l.i;
  unmatched : l.unmatched ≡ unmatched (drop (length l.letters - l.i) l.letters);
  tests : reverse l.tests.items ≡ return_tests (drop (length l.letters - l.i) l.letters);
}
