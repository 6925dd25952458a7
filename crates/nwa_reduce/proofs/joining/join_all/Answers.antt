use Rattle.std.proofs.Common.{arith}
use Rattle.nwa_reduce.proofs.JoinLemmas.{exits_none, exits_more, exits_all}
use Rattle.nwa_reduce.proofs.joining.join_all.Goals as goal

pub loop-exit-init : goal.loop-exit-init
loop-exit-init c = exits_none c.args.nwa.now c.args.callers.now c.args.inner.now c.args.joins.now.items

pub loop-exit-preserved : goal.loop-exit-preserved
loop-exit-preserved c =
    exits_more c.args.nwa.now c.args.callers.now c.args.inner.now c.loop-exit.exit-index _ c.args.joins.now.items c.loop-exit.joins.items _
    c.loop-exit-test.true c.loop-exit.invariant c.in_ok-join_exit.ensures

pub returns : goal.returns
returns c =
    exits_all c.args.nwa.now c.args.callers.now c.args.inner.now c.loop-exit.exit-index c.args.joins.now.items c.loop-exit.joins.items (omega arith)
    c.loop-exit.invariant
