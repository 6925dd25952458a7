use Rattle.std.proofs.Common.{◌≡◌, take}
use Rattle.lowered_graph.specs.LoweredSteps.Edges.{those_in}
use Rattle.icfg_lower.proofs.call_jumps.written.those_in.Given as goal

abbrev pub invariant-loop-number : goal.invariant-loop-number
invariant-loop-number l = l.inside.items ≡ those_in l.list (take l.number-index l.numbers)
