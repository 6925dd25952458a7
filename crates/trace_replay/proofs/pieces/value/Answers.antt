use Rattle.std.proofs.Common.{[], ◌∷◌}
use Rattle.trace_replay.proofs.Stripped.{stripped}
use Rattle.trace_replay.proofs.LineReading.{minus_and_value}
use Rattle.trace_replay.proofs.pieces.value.Goals as goal

pub returns-in-Some : goal.returns-in-Some
returns-in-Some c =
    minus_and_value c.args.bytes.now c.in-Some.rest.now c.value_below_zero.result (stripped (45 ∷ []) c.args.bytes.now c.in-Some.rest.now c.in-Some.ensures.cases) c.value_below_zero.ensures
