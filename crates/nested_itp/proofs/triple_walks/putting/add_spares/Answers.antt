use Rattle.nested_itp.specs.TripleWalks.Goals.{plain_goal}
use Rattle.nested_itp.proofs.TripleWalks.PuttingLaws.{roles_none, spares_more, spares_all}
use Rattle.nested_itp.proofs.triple_walks.putting.add_spares.Goals as goal

pub loop-i-init : goal.loop-i-init
loop-i-init c = roles_none (plain_goal c.args.goal.now)

pub loop-i-preserved : goal.loop-i-preserved
loop-i-preserved c = spares_more c.loop-i._i (plain_goal c.args.goal.now) (plain_goal c.loop-i.goal) (plain_goal c.add.new.self) c.loop-i.invariant c.in_ok-add.ensures

pub returns : goal.returns
returns c = spares_all c.loop-i._i c.args.count (plain_goal c.args.goal.now) (plain_goal c.loop-i.goal) c.loop-i.auto._i-end c.loop-i-test.false c.loop-i.invariant
