use Rattle.std.proofs.Common.{[], ◌∷◌}
use Rattle.trace_replay.proofs.Stripped.{not_in_front}
use Rattle.trace_replay.proofs.NumeralReading.{front_digits, no_number_there, another_end}
use Rattle.trace_replay.proofs.numerals.number_to.Goals as goal

pub number_of-requires : goal.number_of-requires
number_of-requires c = rw (c.split_at.ensures.front, c.digit_count.ensures.value) (front_digits c.args.bytes.now)

pub returns-in_err-n : goal.returns-in_err-n
returns-in_err-n c =
    rw c.from_residual.ensures (no_number_there c.digit_count.result c.args.end c.args.bytes.now c.split_at.result.0.now
    c.split_at.ensures.front c.digit_count.ensures.value c.requires c.in_err-n.ensures)

pub returns-in_err-rest : goal.returns-in_err-rest
returns-in_err-rest c =
    rw c.from_residual-in_err-rest.ensures (another_end c.digit_count.result c.args.end c.args.bytes.now c.split_at.result.1.now
    c.split_at.ensures.back c.digit_count.ensures.value c.requires (not_in_front (c.args.end ∷ []) c.split_at.result.1.now c.in_err-rest.ensures.cases))
