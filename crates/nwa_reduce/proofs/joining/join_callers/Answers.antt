use Rattle.std.proofs.Common.{arith}
use Rattle.nwa_reduce.proofs.JoinLemmas.{callers_none, callers_more, callers_all}
use Rattle.nwa_reduce.proofs.joining.join_callers.Goals as goal

pub loop-before-init : goal.loop-before-init
loop-before-init c = callers_none c.args.callers.now c.args.exit c.args.joins.now.items

pub loop-before-preserved : goal.loop-before-preserved
loop-before-preserved c =
    callers_more c.args.callers.now c.loop-before.before-index _ c.args.exit c.args.joins.now.items c.loop-before.joins.items _ c.loop-before-test.true
    c.loop-before.invariant c.in_ok-push.ensures.items

pub returns : goal.returns
returns c = callers_all c.args.callers.now c.loop-before.before-index c.args.exit c.args.joins.now.items c.loop-before.joins.items (omega arith) c.loop-before.invariant
