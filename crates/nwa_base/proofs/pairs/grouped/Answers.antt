use Rattle.nwa_base.proofs.LoopLemmas.{seconds_more, seconds_all}
use Rattle.nwa_base.proofs.pairs.grouped.Goals as goal

pub loop-p-preserved : goal.loop-p-preserved
loop-p-preserved c p =
    seconds_more c.args.pairs.now c.loop-p.p-index (0, 0) p _ _ _ c.loop-p-test.true (c.loop-p.invariant p) (c.in_ok-add.ensures.ok p)

pub returns : goal.returns
returns c p = seconds_all c.args.pairs.now c.loop-p.p-index p _ _ c.loop-p-test.false (c.loop-p.invariant p)
