use Rattle.std.proofs.Common.{◌-◌, length, refl}
use Rattle.nested_itp.proofs.TripleWalks.SecondLaws.{seconds_more, seconds_all}
use Rattle.nested_itp.proofs.triple_walks.trees.Tree.of.Goals as goal

pub loop-i-preserved : goal.loop-i-preserved
loop-i-preserved c =
    seconds_more c.args.nodes.now c.loop-i.i (length c.args.nodes.now - 1 - c.loop-i.i) c.index-nodes-at.result c.loop-i.seconds.items c.push.new.self.items c.loop-i.roots.items
    c.second_part.new.roots.items c.push-in-loop-i.new.self.items c.second_part.result c.loop-i-test.true refl c.index-nodes-at.is c.loop-i.invariant c.second_part.ensures.value
    c.second_part.ensures.roots c.in_ok-push.ensures.items c.in_ok-push-2.ensures.items

pub returns-clause-seconds : goal.returns-clause-seconds
returns-clause-seconds c = λ t u e.
    seconds_all c.args.nodes.now c.loop-i.i c.loop-i.seconds.items c.turned.result.items c.loop-i.roots.items c.loop-i-test.false c.loop-i.invariant c.turned.ensures t u e
