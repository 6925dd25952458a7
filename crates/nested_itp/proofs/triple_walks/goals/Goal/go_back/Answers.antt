use Rattle.nested_itp.proofs.TripleWalks.GoalLaws.{back_is}
use Rattle.nested_itp.proofs.triple_walks.goals.Goal.go_back.Goals as goal

pub returns : goal.returns
returns c =
    back_is c.args.mark c.truncate.new.self.items c.args.self.now.roles.items c.truncate-2.new.self.items c.args.self.now.groups.items c.args.self.now.first
    c.truncate-3.new.self.items c.args.self.now.taken.items c.truncate.ensures.items c.truncate-2.ensures.items c.truncate-3.ensures.items
