use Rattle.std.proofs.Common.{◌≡◌, drop}
use Rattle.letter_acts.specs.Reading.{is_listed}
use Rattle.triple_rows.proofs.frames.is_listed.Given as goal

abbrev pub invariant-loop-i : goal.invariant-loop-i
invariant-loop-i l = is_listed l.numbers l.number ≡ is_listed (drop l.i l.numbers) l.number
