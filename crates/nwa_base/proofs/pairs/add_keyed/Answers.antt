use Rattle.nwa_base.proofs.LoopLemmas.{keyed_more, keyed_all}
use Rattle.nwa_base.proofs.pairs.add_keyed.Goals as goal

pub loop-e-preserved : goal.loop-e-preserved
loop-e-preserved c =
    keyed_more c.args.key c.args.to.now c.loop-e.e-index 0 _ _ _ c.loop-e-test.true c.loop-e.invariant c.in_ok-push.ensures.items

pub returns : goal.returns
returns c = keyed_all c.args.key c.args.to.now c.loop-e.e-index _ _ c.loop-e-test.false c.loop-e.invariant
