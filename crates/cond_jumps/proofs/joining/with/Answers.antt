use Rattle.cond_jumps.specs.Conjs.{conjunctions}
use Rattle.cond_jumps.specs.Ties.JoinView.{each_moved}
use Rattle.cond_jumps.proofs.ListTurns.{each_turn}
use Rattle.cond_jumps.proofs.joining.with.Goals as goal

pub loop-conj-preserved : goal.loop-conj-preserved
loop-conj-preserved c =
    each_turn c.args.base c.args.first.now c.loop-conj.conj-index c.conj-item.result c.loop-conj.list.items c.with_each.new.list.items (conjunctions c.args.second.now)
    (each_moved c.args.base (conjunctions c.args.first.now) (conjunctions c.args.second.now)) c.loop-conj-test.true c.conj-item.is c.in_ok-with_each.ensures c.loop-conj.invariant
