use Rattle.std.proofs.Common.{sym, ◌∙◌}
use Rattle.proof_names.proofs.NumberLaws.{below_not, over, reads_next, too_many}
use Rattle.proof_form.specs.NumberValues.{number}
use Rattle.proof_names.specs.Numbers.{if_below}
use Rattle.std.specs.Prelude.{◌≡◌, None}
use Rattle.proof_names.proofs.numbers.number_below.Goals as goal

pub returns-in_err-value : goal.returns-in_err-value
returns-in_err-value c =
    let h : if_below c.args.limit (number c.args.digits.now) ≡ None =
    too_many c.args.limit c.args.digits.now c.loop-digit.digit-index c.loop-digit.value c.with_digit.result c.requires c.loop-digit.invariant c.loop-digit-test.true
    c.with_digit.ensures c.in_err-value.was in
    cc

pub returns-then-value-limit : goal.returns-then-value-limit
returns-then-value-limit c =
    sym (below_not c.args.limit (number c.args.digits.now) (over c.args.limit c.args.digits.now c.loop-digit.digit-index c.loop-digit.value c.in_ok-value.value c.loop-digit.invariant
    c.loop-digit-test.true (sym c.with_digit.ensures ∙ c.in_ok-value.was) c.if-value-limit.true))

pub loop-digit-preserved : goal.loop-digit-preserved
loop-digit-preserved c =
    reads_next c.args.digits.now c.loop-digit.digit-index c.loop-digit.value c.in_ok-value.value c.loop-digit.invariant c.loop-digit-test.true (sym c.with_digit.ensures ∙ c.in_ok-value.was)
