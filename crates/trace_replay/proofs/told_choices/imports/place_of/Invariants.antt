use Rattle.std.proofs.Common.{◌≡◌, drop}
use Rattle.lowered_graph.specs.LoweredSteps.Edges.{found_from}
use Rattle.trace_replay.proofs.told_choices.imports.place_of.Given as goal

abbrev pub invariant-loop-place : goal.invariant-loop-place
invariant-loop-place l = found_from l.place (drop l.place l.numbers) l.number ≡ found_from 0 l.numbers l.number
