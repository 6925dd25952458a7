use Rattle.std.proofs.Common.{◌≡◌, drop}
use Rattle.lowered_graph.specs.LoweredSteps.Edges.{found_from}
use Rattle.icfg_lower.proofs.call_jumps.written.found.Given as goal

abbrev pub invariant-loop-i : goal.invariant-loop-i
invariant-loop-i l = found_from l.i (drop l.i l.list) l.number ≡ found_from 0 l.list l.number
