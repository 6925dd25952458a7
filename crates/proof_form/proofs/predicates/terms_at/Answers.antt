use Rattle.std.proofs.Common.{arith, sym, ◌∙◌}
use Rattle.std.proofs.lemmas.Result.{err_from_is_err_and}
use Rattle.proof_form.specs.Reading.{item_follows}
use Rattle.proof_form.specs.PredicateReading.{term_at, terms_at}
use Rattle.proof_form.proofs.AfterLaws.{refused}
use Rattle.proof_form.proofs.ManyLaws.{begins, stops, ends, fails, goes_on}
use Rattle.proof_form.proofs.predicates.terms_at.Goals as goal

pub loop-turn-init : goal.loop-turn-init
loop-turn-init c = begins term_at item_follows _ _ _ _ c.new-terms.ensures.items (omega arith)

pub returns-then-not-item_follows : goal.returns-then-not-item_follows
returns-then-not-item_follows c = stops term_at item_follows _ _ _ _ _ c.loop-turn-test.true c.loop-turn.invariant (sym c.if-not-item_follows.ensures)

pub returns-in_err-term : goal.returns-in_err-term
returns-in_err-term c =
    let p = err_from_is_err_and c.from_residual.result c.from_residual.ensures.1 in
    rw (p.1, p.2) (refused c.in_err-term.field-0.0 (term_at c.loop-turn.rest.now) (terms_at c.args.bytes.now)
    (fails term_at item_follows _ _ _ _ _ c.loop-turn-test.true c.loop-turn.invariant (sym c.item_follows.ensures ∙ c.if-not-item_follows.false)) c.in_err-term.ensures)

pub loop-turn-preserved : goal.loop-turn-preserved
loop-turn-preserved c =
    goes_on term_at item_follows _ _ _ _ _ _ _ _ c.loop-turn-test.true c.loop-turn.invariant (sym c.item_follows.ensures ∙ c.if-not-item_follows.false)
    c.in_ok-term.ensures c.in_ok-push.ensures.items

pub returns : goal.returns
returns c = ends term_at item_follows _ _ _ _ (omega arith) c.loop-turn.invariant
