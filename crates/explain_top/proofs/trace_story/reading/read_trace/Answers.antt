use Rattle.explain_top.specs.declared.trace_story.traces.TraceFault.TheVariants.{Syntax}
use Rattle.explain_top.proofs.TraceStory.TraceLaws.{first_line_fault, second_line_fault, third_line_fault, last_line_fault, trace_of, trace_read, trace_is_read, fault_is_memory, match_none, match_some, nothing_left, something_left}
use Rattle.explain_top.proofs.trace_story.reading.read_trace.Goals as goal

pub returns-in_default-clause-fault : goal.returns-in_default-clause-fault
returns-in_default-clause-fault c = first_line_fault c.args.text.now c.in_default.ensures

pub returns-in_default-clause-whole : goal.returns-in_default-clause-whole
returns-in_default-clause-whole c = fault_is_memory c.args.text.now (Syntax 1) (first_line_fault c.args.text.now c.in_default.ensures)

pub returns-in_default-rounds_line-clause-fault : goal.returns-in_default-rounds_line-clause-fault
returns-in_default-rounds_line-clause-fault c = second_line_fault c.in-Some.cause c.args.text.now c.in-Some.rest.now c.in-Some.ensures c.in_default-rounds_line.ensures

pub returns-in_default-rounds_line-clause-whole : goal.returns-in_default-rounds_line-clause-whole
returns-in_default-rounds_line-clause-whole c =
    fault_is_memory c.args.text.now (Syntax 2) (second_line_fault c.in-Some.cause c.args.text.now c.in-Some.rest.now c.in-Some.ensures c.in_default-rounds_line.ensures)

pub returns-in_default-2-clause-fault : goal.returns-in_default-2-clause-fault
returns-in_default-2-clause-fault c =
    third_line_fault c.in-Some.cause c.in-Some-rounds_line.rounds c.args.text.now c.in-Some.rest.now c.in-Some-rounds_line.rest.now c.in-Some.ensures c.in-Some-rounds_line.ensures
    (match_none c.in_ok-letters.field-0 _ _ c.in_default-2.is c.in_ok-letters.ensures)

pub returns-in_default-2-clause-whole : goal.returns-in_default-2-clause-whole
returns-in_default-2-clause-whole c =
    fault_is_memory c.args.text.now (Syntax 3) (third_line_fault c.in-Some.cause c.in-Some-rounds_line.rounds c.args.text.now c.in-Some.rest.now c.in-Some-rounds_line.rest.now c.in-Some.ensures c.in-Some-rounds_line.ensures
    (match_none c.in_ok-letters.field-0 _ _ c.in_default-2.is c.in_ok-letters.ensures))

pub returns-then-not-is_empty-clause-fault : goal.returns-then-not-is_empty-clause-fault
returns-then-not-is_empty-clause-fault c =
    last_line_fault c.in-Some.cause c.in-Some-rounds_line.rounds c.in-Some-2.letters.items c.args.text.now c.in-Some.rest.now c.in-Some-rounds_line.rest.now c.in-Some-2.rest.now c.in-Some.ensures c.in-Some-rounds_line.ensures
    (match_some c.in_ok-letters.field-0 _ _ (c.in-Some-2.letters, c.in-Some-2.rest) c.in-Some-2.is c.in_ok-letters.ensures)
    (something_left c.in-Some-2.rest.now c.is_empty.result c.is_empty.ensures c.if-not-is_empty.true)

pub returns-then-not-is_empty-clause-whole : goal.returns-then-not-is_empty-clause-whole
returns-then-not-is_empty-clause-whole c =
    fault_is_memory c.args.text.now (Syntax 4)
    (last_line_fault c.in-Some.cause c.in-Some-rounds_line.rounds c.in-Some-2.letters.items c.args.text.now c.in-Some.rest.now c.in-Some-rounds_line.rest.now c.in-Some-2.rest.now c.in-Some.ensures c.in-Some-rounds_line.ensures
    (match_some c.in_ok-letters.field-0 _ _ (c.in-Some-2.letters, c.in-Some-2.rest) c.in-Some-2.is c.in_ok-letters.ensures)
    (something_left c.in-Some-2.rest.now c.is_empty.result c.is_empty.ensures c.if-not-is_empty.true))

pub returns-clause-found : goal.returns-clause-found
returns-clause-found c =
    let two = c.in-Some-rounds_line.ensures in
    let three = match_some c.in_ok-letters.field-0 _ _ (c.in-Some-2.letters, c.in-Some-2.rest) c.in-Some-2.is c.in_ok-letters.ensures in (
      record { rounds = two.0; letters = three.0 },
      trace_read c.in-Some.cause c.in-Some-rounds_line.rounds c.in-Some-2.letters.items c.args.text.now c.in-Some.rest.now c.in-Some-rounds_line.rest.now c.in-Some-2.rest.now c.in-Some.ensures two.1 three.1
          (nothing_left c.in-Some-2.rest.now c.is_empty.result c.is_empty.ensures c.if-not-is_empty.false),
    )

pub returns-clause-whole : goal.returns-clause-whole
returns-clause-whole c =
    let two = c.in-Some-rounds_line.ensures in
    let three = match_some c.in_ok-letters.field-0 _ _ (c.in-Some-2.letters, c.in-Some-2.rest) c.in-Some-2.is c.in_ok-letters.ensures in
    trace_is_read c.args.text.now (trace_of c.in-Some.cause c.in-Some-rounds_line.rounds c.in-Some-2.letters.items) (record { rounds = two.0; letters = three.0 })
    (trace_read c.in-Some.cause c.in-Some-rounds_line.rounds c.in-Some-2.letters.items c.args.text.now c.in-Some.rest.now c.in-Some-rounds_line.rest.now c.in-Some-2.rest.now c.in-Some.ensures two.1 three.1
    (nothing_left c.in-Some-2.rest.now c.is_empty.result c.is_empty.ensures c.if-not-is_empty.false))
