use Rattle.std.proofs.Common.{◌≡◌, drop}
use Rattle.letter_acts.specs.Reading.{is_listed}
use Rattle.trace_replay.proofs.told_choices.imports.is_in.Given as goal

abbrev pub invariant-loop-listed : goal.invariant-loop-listed
invariant-loop-listed l = is_listed (drop l.listed-index l.numbers) l.number ≡ is_listed l.numbers l.number
