use Rattle.std.proofs.Common.{◌≡◌, take, not}
use Rattle.std.specs.Prelude.{filter}
use Rattle.letter_acts.specs.Reading.{is_listed}
use Rattle.triple_rows.proofs.frames.unlisted.Given as goal

abbrev pub invariant-loop-number : goal.invariant-loop-number
invariant-loop-number l = l.others.items ≡ filter (λ g. not (is_listed l.listed g)) (take l.number-index l.numbers)
