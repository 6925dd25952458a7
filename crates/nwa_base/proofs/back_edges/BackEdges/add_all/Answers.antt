use Rattle.nwa_base.proofs.LoopLemmas.{added_none, added_more, added_all}
use Rattle.nwa_base.proofs.back_edges.BackEdges.add_all.Goals as goal

pub loop-edge-init : goal.loop-edge-init
loop-edge-init c = added_none c.args.self.now

pub loop-edge-preserved : goal.loop-edge-preserved
loop-edge-preserved c = added_more c.args.edges.now c.loop-edge.edge-index _ _ _ _ c.loop-edge-test.true c.loop-edge.invariant c.in_ok-push.ensures.ok

pub returns : goal.returns
returns c = added_all c.args.edges.now c.loop-edge.edge-index _ _ c.loop-edge-test.false c.loop-edge.invariant
