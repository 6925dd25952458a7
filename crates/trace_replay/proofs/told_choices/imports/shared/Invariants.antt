use Rattle.std.proofs.Common.{◌≡◌, ◌++◌, drop}
use Rattle.lowered_graph.specs.LoweredSteps.Edges.{those_in}
use Rattle.trace_replay.proofs.told_choices.imports.shared.Given as goal

abbrev pub invariant-loop-global : goal.invariant-loop-global
invariant-loop-global l = l.found.items ++ those_in l.targets (drop l.global-index l.modified) ≡ those_in l.targets l.modified
