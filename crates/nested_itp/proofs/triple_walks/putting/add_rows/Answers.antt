use Rattle.std.proofs.Common.{◌≡◌, ◌+◌, rules}
use Rattle.nested_itp.specs.TripleWalks.Goals.{plain_goal}
use Rattle.nested_itp.proofs.TripleWalks.PuttingLaws.{roles_none, rows_more, rows_all}
use Rattle.nested_itp.proofs.triple_walks.putting.add_rows.Goals as goal

pub loop-i-init : goal.loop-i-init
loop-i-init c = roles_none (plain_goal c.args.goal.now)

pub loop-i-preserved : goal.loop-i-preserved
loop-i-preserved c =
    let e : c.in-Some.row ≡ c.args.first + c.loop-i.i = search rules in
    rows_more c.args.first c.loop-i.i c.in-Some.row (plain_goal c.args.goal.now) (plain_goal c.loop-i.goal) (plain_goal c.add.new.self) e c.loop-i.invariant c.in_ok-add-in-Some.ensures

pub returns : goal.returns
returns c = rows_all c.args.first c.loop-i.i c.args.count (plain_goal c.args.goal.now) (plain_goal c.loop-i.goal) c.loop-i.auto.i-end c.loop-i-test.false c.loop-i.invariant
