use Rattle.std.proofs.lemmas.Result.{err_from_is_err_and}
use Rattle.trace_replay.specs.FailureText.{plain}
use Rattle.trace_replay.proofs.FailureLaws.{fault_is_memory, read_whole, same_failure}
use Rattle.trace_replay.proofs.ValueFaults.{fault_behind_head}
use Rattle.trace_replay.proofs.reading.read_failure.Goals as goal

pub returns-in_err-head-clause-whole : goal.returns-in_err-head-clause-whole
returns-in_err-head-clause-whole c =
    let p = err_from_is_err_and c.from_residual.result c.from_residual.ensures.1 in
    rw (p.1, p.2) (fault_is_memory c.args.text.now c.in_err-head.field-0.0 c.in_err-head.ensures.fault)

pub returns-in_err-choices-clause-whole : goal.returns-in_err-choices-clause-whole
returns-in_err-choices-clause-whole c =
    let p = err_from_is_err_and c.from_residual-in_err-choices.result c.from_residual-in_err-choices.ensures.1 in
    rw (p.1, p.2) (fault_is_memory c.args.text.now c.in_err-choices.field-0.0
    (fault_behind_head c.args.text.now c.in_ok-head.rest.now c.in_ok-head.head c.in_err-choices.field-0.0 c.in_ok-head.ensures.found c.in_err-choices.ensures))

pub returns-in_err-choices-clause-fault : goal.returns-in_err-choices-clause-fault
returns-in_err-choices-clause-fault c =
    let p = err_from_is_err_and c.from_residual-in_err-choices.result c.from_residual-in_err-choices.ensures.1 in
    rw (p.1, p.2) (fault_behind_head c.args.text.now c.in_ok-head.rest.now c.in_ok-head.head c.in_err-choices.field-0.0 c.in_ok-head.ensures.found c.in_err-choices.ensures)

pub returns-clause-whole : goal.returns-clause-whole
returns-clause-whole c =
    same_failure c.args.text.now (plain (record { rounds = c.in_ok-head.head.rounds; id = c.in_ok-head.head.id; trail = record { steps = c.in_ok-head.head.steps; choices = c.in_ok-choices.choices } }))
    (read_whole c.args.text.now c.in_ok-head.rest.now c.in_ok-head.head c.in_ok-choices.choices.items c.in_ok-head.ensures.found c.in_ok-choices.ensures)
