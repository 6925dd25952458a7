use Rattle.std.proofs.Common.{codes}
use Rattle.trace_replay.proofs.Stripped.{stripped, not_in_front}
use Rattle.trace_replay.proofs.LineReading.{no_assertion_word, no_assertion_number, no_assertion_line, no_line_number}
use Rattle.trace_replay.proofs.LinesRead.{assertion_read}
use Rattle.trace_replay.proofs.pieces.assertion.Goals as goal

pub returns-in_err-rest : goal.returns-in_err-rest
returns-in_err-rest c = rw c.from_residual.ensures (no_assertion_word c.args.bytes.now (not_in_front (codes "assertion ") c.args.bytes.now c.in_err-rest.ensures.cases))

pub returns-in_err-number : goal.returns-in_err-number
returns-in_err-number c =
    rw c.from_residual-in_err-number.ensures (no_assertion_number c.args.bytes.now c.in_ok-rest.rest.now
    (stripped (codes "assertion ") c.args.bytes.now c.in_ok-rest.rest.now c.in_ok-rest.ensures.cases) c.in_err-number.ensures)

pub returns-in_err-rest-2 : goal.returns-in_err-rest-2
returns-in_err-rest-2 c =
    rw c.from_residual-in_err-rest-2.ensures (no_assertion_line c.in_ok-number.number c.args.bytes.now c.in_ok-rest.rest.now c.in_ok-number.rest.now
    (stripped (codes "assertion ") c.args.bytes.now c.in_ok-rest.rest.now c.in_ok-rest.ensures.cases) c.in_ok-number.ensures
    (not_in_front (codes "line ") c.in_ok-number.rest.now c.in_err-rest-2.ensures.cases))

pub returns-in_err-line : goal.returns-in_err-line
returns-in_err-line c =
    rw c.from_residual-in_err-line.ensures (no_line_number c.in_ok-number.number c.args.bytes.now c.in_ok-rest.rest.now c.in_ok-number.rest.now c.in_ok-rest-2.rest.now
    (stripped (codes "assertion ") c.args.bytes.now c.in_ok-rest.rest.now c.in_ok-rest.ensures.cases) c.in_ok-number.ensures
    (stripped (codes "line ") c.in_ok-number.rest.now c.in_ok-rest-2.rest.now c.in_ok-rest-2.ensures.cases) c.in_err-line.ensures)

pub returns : goal.returns
returns c =
    assertion_read c.in_ok-number.number c.in_ok-line.line c.args.bytes.now c.in_ok-rest.rest.now c.in_ok-number.rest.now c.in_ok-rest-2.rest.now c.in_ok-line.rest.now
    (stripped (codes "assertion ") c.args.bytes.now c.in_ok-rest.rest.now c.in_ok-rest.ensures.cases) c.in_ok-number.ensures
    (stripped (codes "line ") c.in_ok-number.rest.now c.in_ok-rest-2.rest.now c.in_ok-rest-2.ensures.cases) c.in_ok-line.ensures
