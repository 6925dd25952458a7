use Rattle.std.proofs.Common.{◌≡◌, length, take}
use Rattle.hoare_check.proofs.equality.same_terms.Given as goal

abbrev pub invariant-loop-i : goal.invariant-loop-i
invariant-loop-i l = record {
  lengths : length l.a ≡ length l.b;
  same : take l.i l.a ≡ take l.i l.b;
}
