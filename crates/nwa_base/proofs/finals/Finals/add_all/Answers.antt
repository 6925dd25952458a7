use Rattle.nwa_base.proofs.LoopLemmas.{added_none, added_more, added_all}
use Rattle.nwa_base.proofs.finals.Finals.add_all.Goals as goal

pub loop-q-init : goal.loop-q-init
loop-q-init c = added_none c.args.self.now

pub loop-q-preserved : goal.loop-q-preserved
loop-q-preserved c = added_more c.args.states.now c.loop-q.q-index _ _ _ _ c.loop-q-test.true c.loop-q.invariant c.in_ok-push.ensures.ok

pub returns : goal.returns
returns c = added_all c.args.states.now c.loop-q.q-index _ _ c.loop-q-test.false c.loop-q.invariant
