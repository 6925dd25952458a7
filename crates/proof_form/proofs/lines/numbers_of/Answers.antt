use Rattle.std.proofs.Common.{arith, sym, ◌∙◌}
use Rattle.std.proofs.lemmas.Result.{err_from_is_err_and}
use Rattle.proof_form.specs.Reading.{more_follow}
use Rattle.proof_form.specs.LineReading.{next_at, numbers_of}
use Rattle.proof_form.proofs.AfterLaws.{refused}
use Rattle.proof_form.proofs.ManyLaws.{begins, stops, ends, fails, goes_on, all_read_none, all_read_some, none_read}
use Rattle.proof_form.proofs.lines.numbers_of.Goals as goal

pub loop-turn-init : goal.loop-turn-init
loop-turn-init c = begins next_at more_follow _ _ _ _ c.new-numbers.ensures.items (omega arith)

pub returns-then-not-more_follow : goal.returns-then-not-more_follow
unfolding numbers_of
returns-then-not-more_follow c =
    all_read_some _ _ _ (stops next_at more_follow _ _ _ _ _ c.loop-turn-test.true c.loop-turn.invariant (sym c.if-not-more_follow.ensures)) (sym c.if-not-more_follow.ensures)

pub returns-in_err-number : goal.returns-in_err-number
unfolding numbers_of
returns-in_err-number c =
    let p = err_from_is_err_and c.from_residual.result c.from_residual.ensures.1 in
    rw (p.1, p.2) (refused c.in_err-number.field-0.0 (next_at c.loop-turn.rest.now) (numbers_of c.args.bytes.now)
    (λ none. none_read _ (fails next_at more_follow _ _ _ _ _ c.loop-turn-test.true c.loop-turn.invariant (sym c.more_follow.ensures ∙ c.if-not-more_follow.false) none)) c.in_err-number.ensures)

pub loop-turn-preserved : goal.loop-turn-preserved
loop-turn-preserved c =
    goes_on next_at more_follow _ _ _ _ _ _ _ _ c.loop-turn-test.true c.loop-turn.invariant (sym c.more_follow.ensures ∙ c.if-not-more_follow.false)
    c.in_ok-number.ensures c.in_ok-push.ensures.items

pub returns-then-more_follow : goal.returns-then-more_follow
unfolding numbers_of
returns-then-more_follow c =
    all_read_none _ _ _ (ends next_at more_follow _ _ _ _ (omega arith) c.loop-turn.invariant) (sym c.if-more_follow.ensures)

pub returns : goal.returns
unfolding numbers_of
returns c = all_read_some _ _ _ (ends next_at more_follow _ _ _ _ (omega arith) c.loop-turn.invariant) (sym c.if-more_follow.ensures)
