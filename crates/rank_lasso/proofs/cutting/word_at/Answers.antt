use Rattle.std.proofs.Common.{[], ◌∷◌}
use Rattle.trace_replay.proofs.Stripped.{stripped}
use Rattle.rank_lasso.proofs.Cuts.{word_read}
use Rattle.rank_lasso.proofs.cutting.word_at.Goals as goal

pub returns : goal.returns
returns c =
    word_read c.args.bytes.now c.in_ok-rest.rest.now c.until.result.0.now c.until.result.1.now
    (stripped (32 ∷ []) c.args.bytes.now c.in_ok-rest.rest.now c.in_ok-rest.ensures.cases) c.until.ensures
