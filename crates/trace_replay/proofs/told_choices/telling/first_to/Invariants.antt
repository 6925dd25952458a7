use Rattle.std.proofs.Common.{◌≡◌, ◌+◌, drop}
use Rattle.trace_replay.specs.ToldChoices.Telling.{first_to}
use Rattle.trace_replay.proofs.told_choices.telling.first_to.Given as goal

abbrev pub invariant-loop-place : goal.invariant-loop-place
invariant-loop-place l = l.place + first_to l.to (drop l.place l.edges) ≡ first_to l.to l.edges
