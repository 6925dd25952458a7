use Rattle.std.proofs.Common.{arith, sym, ◌∙◌}
use Rattle.std.proofs.lemmas.Result.{err_from_is_err_and}
use Rattle.proof_form.specs.Reading.{more_follow}
use Rattle.proof_form.specs.Predicates.{plain_predicate_node}
use Rattle.proof_form.specs.PredicateReading.{piece_at, pieces_of}
use Rattle.proof_form.specs.Ties.TreeViews.{part}
use Rattle.proof_form.proofs.AfterLaws.{refused}
use Rattle.proof_form.proofs.ManyLaws.{begins, stops, ends, fails, goes_on, pushed, none_pushed, all_read_none, all_read_some, none_read}
use Rattle.proof_form.proofs.predicates.pieces_of.Goals as goal

pub loop-turn-init : goal.loop-turn-init
loop-turn-init c = begins piece_at more_follow _ _ _ _ (none_pushed (part plain_predicate_node) _ c.new-pieces.ensures.items) (omega arith)

pub returns-then-not-more_follow : goal.returns-then-not-more_follow
unfolding pieces_of
returns-then-not-more_follow c =
    all_read_some _ _ _ (stops piece_at more_follow _ _ _ _ _ c.loop-turn-test.true c.loop-turn.invariant (sym c.if-not-more_follow.ensures)) (sym c.if-not-more_follow.ensures)

pub returns-in_err-piece : goal.returns-in_err-piece
unfolding pieces_of
returns-in_err-piece c =
    let p = err_from_is_err_and c.from_residual.result c.from_residual.ensures.1 in
    rw (p.1, p.2) (refused c.in_err-piece.field-0.0 (piece_at c.loop-turn.rest.now) (pieces_of c.args.bytes.now)
    (λ none. none_read _ (fails piece_at more_follow _ _ _ _ _ c.loop-turn-test.true c.loop-turn.invariant (sym c.more_follow.ensures ∙ c.if-not-more_follow.false) none)) c.in_err-piece.ensures)

pub loop-turn-preserved : goal.loop-turn-preserved
loop-turn-preserved c =
    goes_on piece_at more_follow _ _ _ _ _ _ _ _ c.loop-turn-test.true c.loop-turn.invariant (sym c.more_follow.ensures ∙ c.if-not-more_follow.false)
    c.in_ok-piece.ensures (pushed (part plain_predicate_node) _ _ _ c.in_ok-push.ensures.items)

pub returns-then-more_follow : goal.returns-then-more_follow
unfolding pieces_of
returns-then-more_follow c =
    all_read_none _ _ _ (ends piece_at more_follow _ _ _ _ (omega arith) c.loop-turn.invariant) (sym c.if-more_follow.ensures)

pub returns : goal.returns
unfolding pieces_of
returns c = all_read_some _ _ _ (ends piece_at more_follow _ _ _ _ (omega arith) c.loop-turn.invariant) (sym c.if-more_follow.ensures)
