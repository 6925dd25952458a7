use Rattle.std.proofs.Common.{◌-◌, length}
use Rattle.proof_form.specs.Reading.{many, more_follow}
use Rattle.proof_form.specs.LineReading.{next_at}
use Rattle.proof_form.proofs.ManyLaws.{Reached}
use Rattle.proof_form.proofs.lines.numbers_of.Given as goal

abbrev pub invariant-loop-turn : goal.invariant-loop-turn
invariant-loop-turn l =
    Reached l.numbers.items (many next_at more_follow (l._turn-end - l._turn) l.rest) (many next_at more_follow (length l.fn.bytes) l.fn.bytes)
