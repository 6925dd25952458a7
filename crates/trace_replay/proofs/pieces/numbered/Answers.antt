use Rattle.trace_replay.proofs.Stripped.{stripped, not_in_front}
use Rattle.trace_replay.proofs.LineReading.{no_word, number_behind_word}
use Rattle.trace_replay.proofs.pieces.numbered.Goals as goal

pub returns-in_err-rest : goal.returns-in_err-rest
returns-in_err-rest c = rw c.from_residual.ensures (no_word c.args.word.now c.args.bytes.now (not_in_front c.args.word.now c.args.bytes.now c.in_err-rest.ensures.cases))

pub returns : goal.returns
returns c =
    number_behind_word c.args.word.now c.args.bytes.now c.in_ok-rest.rest.now c.long_number_to.result
    (stripped c.args.word.now c.args.bytes.now c.in_ok-rest.rest.now c.in_ok-rest.ensures.cases) c.long_number_to.ensures
