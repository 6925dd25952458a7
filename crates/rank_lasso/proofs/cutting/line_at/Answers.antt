use Rattle.std.proofs.Common.{[], ◌∷◌}
use Rattle.trace_replay.proofs.Stripped.{stripped, not_in_front}
use Rattle.rank_lasso.proofs.Cuts.{line_read, no_line_word, no_line_end}
use Rattle.rank_lasso.proofs.cutting.line_at.Goals as goal

pub returns-in_err-rest : goal.returns-in_err-rest
returns-in_err-rest c = rw c.from_residual.ensures (no_line_word c.args.word.now c.args.text.now (not_in_front c.args.word.now c.args.text.now c.in_err-rest.ensures.cases))

pub returns-in_err-rest-2 : goal.returns-in_err-rest-2
returns-in_err-rest-2 c =
    rw c.from_residual-in_err-rest-2.ensures (no_line_end c.args.word.now c.args.text.now c.in_ok-rest.rest.now c.until.result.0.now c.until.result.1.now
    (stripped c.args.word.now c.args.text.now c.in_ok-rest.rest.now c.in_ok-rest.ensures.cases) c.until.ensures
    (not_in_front (10 ∷ []) c.until.result.1.now c.in_err-rest-2.ensures.cases))

pub returns : goal.returns
returns c =
    line_read c.args.word.now c.args.text.now c.in_ok-rest.rest.now c.until.result.0.now c.until.result.1.now c.in_ok-rest-2.rest.now
    (stripped c.args.word.now c.args.text.now c.in_ok-rest.rest.now c.in_ok-rest.ensures.cases) c.until.ensures
    (stripped (10 ∷ []) c.until.result.1.now c.in_ok-rest-2.rest.now c.in_ok-rest-2.ensures.cases)
