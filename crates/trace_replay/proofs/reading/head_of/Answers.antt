use Rattle.std.proofs.Common.{codes}
use Rattle.trace_replay.proofs.Stripped.{stripped, not_in_front}
use Rattle.trace_replay.proofs.FirstFaults.{head_spelled, no_unsafe, no_rounds, no_assertion, no_steps, no_count}
use Rattle.trace_replay.proofs.reading.head_of.Goals as goal

pub returns-in_default-clause-fault : goal.returns-in_default-clause-fault
returns-in_default-clause-fault c = no_unsafe c.args.text.now (not_in_front (codes "unsafe\n") c.args.text.now c.in_default.ensures.cases)

pub returns-in_default-numbered-clause-fault : goal.returns-in_default-numbered-clause-fault
returns-in_default-numbered-clause-fault c =
    no_rounds c.args.text.now c.in-Some.rest.now (stripped (codes "unsafe\n") c.args.text.now c.in-Some.rest.now c.in-Some.ensures.cases) c.in_default-numbered.ensures

pub returns-in_default-assertion-clause-fault : goal.returns-in_default-assertion-clause-fault
returns-in_default-assertion-clause-fault c =
    no_assertion c.in-Some-numbered.rounds c.args.text.now c.in-Some.rest.now c.in-Some-numbered.rest.now
    (stripped (codes "unsafe\n") c.args.text.now c.in-Some.rest.now c.in-Some.ensures.cases) c.in-Some-numbered.ensures
    (λ number line more p q. c.in_default-assertion.ensures (record { number = number; line = line }) more (p, q))

pub returns-in_default-numbered-2-clause-fault : goal.returns-in_default-numbered-2-clause-fault
returns-in_default-numbered-2-clause-fault c =
    no_steps c.in-Some-numbered.rounds c.in-Some-assertion.id.number c.in-Some-assertion.id.line
    c.args.text.now c.in-Some.rest.now c.in-Some-numbered.rest.now c.in-Some-assertion.rest.now
    (stripped (codes "unsafe\n") c.args.text.now c.in-Some.rest.now c.in-Some.ensures.cases) c.in-Some-numbered.ensures c.in-Some-assertion.ensures c.in_default-numbered-2.ensures

pub returns-in_default-numbered-3-clause-fault : goal.returns-in_default-numbered-3-clause-fault
returns-in_default-numbered-3-clause-fault c =
    no_count c.in-Some-numbered.rounds c.in-Some-assertion.id.number c.in-Some-assertion.id.line c.in-Some-numbered-2.steps
    c.args.text.now c.in-Some.rest.now c.in-Some-numbered.rest.now c.in-Some-assertion.rest.now c.in-Some-numbered-2.rest.now
    (stripped (codes "unsafe\n") c.args.text.now c.in-Some.rest.now c.in-Some.ensures.cases) c.in-Some-numbered.ensures c.in-Some-assertion.ensures c.in-Some-numbered-2.ensures c.in_default-numbered-3.ensures

pub returns-clause-found : goal.returns-clause-found
returns-clause-found c =
    head_spelled _ c.args.text.now c.in-Some.rest.now c.in-Some-numbered.rest.now c.in-Some-assertion.rest.now c.in-Some-numbered-2.rest.now c.in-Some-numbered-3.rest.now
    (stripped (codes "unsafe\n") c.args.text.now c.in-Some.rest.now c.in-Some.ensures.cases)
    c.in-Some-numbered.ensures c.in-Some-assertion.ensures c.in-Some-numbered-2.ensures c.in-Some-numbered-3.ensures
