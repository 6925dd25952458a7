use Rattle.std.proofs.Common.{◌≡◌, ◌≤◌, length, take}
use Rattle.letter_acts.specs.Reading.{taken}
use Rattle.triple_rows.proofs.frames.taken.Given as goal

abbrev pub invariant-loop-i : goal.invariant-loop-i
invariant-loop-i l = (l.i ≤ length l.results) × (l.pairs.items ≡ taken (take l.i l.targets) (take l.i l.results))
