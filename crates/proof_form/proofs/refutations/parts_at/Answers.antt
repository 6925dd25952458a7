use Rattle.std.proofs.Common.{arith, sym, ◌∙◌}
use Rattle.std.proofs.lemmas.Result.{err_from_is_err_and}
use Rattle.proof_form.specs.Reading.{item_follows}
use Rattle.proof_form.specs.RefutationReading.{part_at, parts_at}
use Rattle.proof_form.proofs.AfterLaws.{refused}
use Rattle.proof_form.proofs.ManyLaws.{begins, stops, ends, fails, goes_on}
use Rattle.proof_form.proofs.refutations.parts_at.Goals as goal

pub loop-turn-init : goal.loop-turn-init
loop-turn-init c = begins part_at item_follows _ _ _ _ c.new-parts.ensures.items (omega arith)

pub returns-then-not-item_follows : goal.returns-then-not-item_follows
returns-then-not-item_follows c = stops part_at item_follows _ _ _ _ _ c.loop-turn-test.true c.loop-turn.invariant (sym c.if-not-item_follows.ensures)

pub returns-in_err-part : goal.returns-in_err-part
returns-in_err-part c =
    let p = err_from_is_err_and c.from_residual.result c.from_residual.ensures.1 in
    rw (p.1, p.2) (refused c.in_err-part.field-0.0 (part_at c.loop-turn.rest.now) (parts_at c.args.bytes.now)
    (fails part_at item_follows _ _ _ _ _ c.loop-turn-test.true c.loop-turn.invariant (sym c.item_follows.ensures ∙ c.if-not-item_follows.false)) c.in_err-part.ensures)

pub loop-turn-preserved : goal.loop-turn-preserved
loop-turn-preserved c =
    goes_on part_at item_follows _ _ _ _ _ _ _ _ c.loop-turn-test.true c.loop-turn.invariant (sym c.item_follows.ensures ∙ c.if-not-item_follows.false)
    c.in_ok-part.ensures c.in_ok-push.ensures.items

pub returns : goal.returns
returns c = ends part_at item_follows _ _ _ _ (omega arith) c.loop-turn.invariant
