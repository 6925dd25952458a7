use Rattle.std.proofs.Common.{◌≡◌, ◌++◌, drop}
use Rattle.nested_itp.specs.NestedPredicates.Walking.{return_tests}
use Rattle.proof_table.proofs.stepping.returns.Given as goal

abbrev pub invariant-loop-i : goal.invariant-loop-i
invariant-loop-i l = l.tests.items ++ return_tests (drop l.i l.letters) ≡ return_tests l.letters
