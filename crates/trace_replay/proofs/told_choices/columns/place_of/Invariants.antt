use Rattle.std.proofs.Common.{◌≡◌, drop}
use Rattle.cond_jumps.specs.Frames.{place_from}
use Rattle.trace_replay.proofs.told_choices.columns.place_of.Given as goal

abbrev pub invariant-loop-place : goal.invariant-loop-place
invariant-loop-place l = place_from l.place (drop l.place l.frame) l.column ≡ place_from 0 l.frame l.column
