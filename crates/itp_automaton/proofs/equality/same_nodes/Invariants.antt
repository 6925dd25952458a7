use Rattle.std.proofs.Common.{◌≡◌, length, take}
use Rattle.itp_automaton.proofs.equality.same_nodes.Given as goal

abbrev pub invariant-loop-i : goal.invariant-loop-i
invariant-loop-i l = record {
  lengths : length l.a ≡ length l.b;
  same : take l.i l.a ≡ take l.i l.b;
}
