use Rattle.std.proofs.Common.{◌≡◌, take}
use Rattle.lowered_graph.specs.LoweredSteps.Edges.{import_written}
use Rattle.icfg_lower.proofs.call_jumps.written.written_columns.Given as goal

abbrev pub invariant-loop-target : goal.invariant-loop-target
invariant-loop-target l = l.written.items ≡ import_written l.modified (take l.target-index l.targets)
