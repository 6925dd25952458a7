use Rattle.std.proofs.Common.{◌++◌, map}
use Rattle.cond_jumps.specs.Conjunctions.{joined}
use Rattle.cond_jumps.specs.Conjs.{conjunction, conjunctions}
use Rattle.cond_jumps.specs.Moving.{moved}
use Rattle.cond_jumps.proofs.ListTurns.{joined_turn}
use Rattle.cond_jumps.proofs.joining.with_each.Goals as goal

pub loop-conj-preserved : goal.loop-conj-preserved
loop-conj-preserved c =
    joined_turn (conjunction c.args.first.now) c.args.base c.args.second.now c.loop-conj.conj-index c.conj-item.result c.in_ok-joined.field-0 c.loop-conj.list.items c.push.new.self.items
    (conjunctions c.args.list.now.items ++ map (joined (conjunction c.args.first.now)) (map (moved c.args.base c.args.first.now.helpers) (conjunctions c.args.second.now))) c.loop-conj-test.true
    c.conj-item.is c.in_ok-push.ensures.items c.in_ok-joined.ensures c.loop-conj.invariant
