use Rattle.std.proofs.Common.{◌∙◌, ◌+◌, refl, sym, arith}
use Rattle.std.proofs.lemmas.List.{length_push}
use Rattle.trace_replay.proofs.ValueReading.{none_read, one_more_read, value_missing, line_too_many, all_read}
use Rattle.trace_replay.proofs.LinesRead.{none_left, some_left}
use Rattle.trace_replay.proofs.reading.choices_of.Goals as goal

pub returns-in_default : goal.returns-in_default
returns-in_default c =
    value_missing c.args.count c.loop-i.i (c.loop-i.i + 6) c.args.text.now c.loop-i.choices.items c.loop-i.rest.now
    c.loop-i.invariant.read c.loop-i.invariant.many c.loop-i-test.true refl c.in_default.ensures

pub loop-i-preserved : goal.loop-i-preserved
loop-i-preserved c =
    rw c.in_ok-push.ensures.items (record {
      read = one_more_read c.args.text.now c.loop-i.choices.items c.loop-i.rest.now c.in-Some.choice c.in-Some.next.now c.loop-i.invariant.read c.in-Some.ensures;
      many = omega (arith, length_push c.loop-i.choices.items c.in-Some.choice, c.loop-i.invariant.many);
    })

pub loop-i-init : goal.loop-i-init
loop-i-init c = rw c.new-choices.ensures.items (record { read = none_read c.args.text.now; many = refl })

pub returns-then-not-is_empty : goal.returns-then-not-is_empty
returns-then-not-is_empty c =
    line_too_many c.args.count (c.args.count + 6) c.args.text.now c.loop-i.choices.items c.loop-i.rest.now c.loop-i.invariant.read
    (omega (arith, c.loop-i.invariant.many, c.loop-i-test.false, c.loop-i.auto.i-end)) refl (some_left c.loop-i.rest.now (sym c.is_empty.ensures ∙ c.if-not-is_empty.true))

pub returns : goal.returns
returns c = (
  omega (arith, c.loop-i.invariant.many, c.loop-i-test.false, c.loop-i.auto.i-end),
  c.loop-i.invariant.read.fit,
  all_read c.args.text.now c.loop-i.choices.items c.loop-i.rest.now c.loop-i.invariant.read (none_left c.loop-i.rest.now (sym c.is_empty.ensures ∙ c.if-not-is_empty.false)),
)
