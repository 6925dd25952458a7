use Rattle.std.proofs.Common.{◌≡◌, drop}
use Rattle.cond_jumps.specs.Frames.{place_from}
use Rattle.cond_jumps.proofs.columns.found.Given as goal

abbrev pub invariant-loop-i : goal.invariant-loop-i
invariant-loop-i l = place_from l.i (drop l.i l.columns) l.column ≡ place_from 0 l.columns l.column
