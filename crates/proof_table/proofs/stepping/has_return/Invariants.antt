use Rattle.std.proofs.Common.{◌≡◌, ◌≤◌, drop}
use Rattle.nested_itp.specs.NestedPredicates.Positions.{has_return}
use Rattle.proof_table.proofs.stepping.has_return.Given as goal

abbrev pub invariant-loop-letter : goal.invariant-loop-letter
invariant-loop-letter l = record {
  few : l.calls ≤ l.letter-index;
  same : has_return l.calls (drop l.letter-index l.letters) ≡ has_return 0 l.letters;
}
