use Rattle.std.proofs.Common.{◌≡◌, take}
use Rattle.itp_automaton.proofs.building.copied_proofs.Given as goal

abbrev pub invariant-loop-known : goal.invariant-loop-known
invariant-loop-known l = l.copies.items ≡ take l.known-index l.proofs
