use Rattle.nwa_difference.specs.Ties.Seen.{stage}
use Rattle.nwa_difference.proofs.StageLemmas.{goes_on}
use Rattle.nwa_difference.proofs.stepping.join.Goals as goal

pub returns : goal.returns
returns c =
    let g = c.in_ok-open_return.ensures in
    let h = c.in_ok-step_back.ensures in
    (goes_on (stage c.args.product.now c.args.pairs.now) (stage c.open_return.new.product c.open_return.new.pairs) (stage c.open_return.new.product c.step_back.new.pairs) g.0 h.0, h.1)
