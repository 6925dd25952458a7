use Rattle.std.proofs.Common.{arith}
use Rattle.std.proofs.lemmas.List.{take-map}
use Rattle.farkas_check.proofs.WalkLaws.{goes_back}
use Rattle.farkas_check.proofs.walk.Walk.go_back.Goals as goal

pub returns-clause-goal : goal.returns-clause-goal
returns-clause-goal c =
    goes_back c.args.self.now.rows.items c.truncate.new.self.items c.args.self.now.groups.items c.truncate-2.new.self.items c.args.rows_len c.args.groups_len c.args.first c.min-self.result
    c.truncate.ensures.items c.truncate-2.ensures.items (let m = c.min-self.ensures in let l = c.len.ensures in omega (arith, m))

pub returns-clause-left : goal.returns-clause-left
returns-clause-left c = rw (c.truncate.ensures.items, c.truncate-2.ensures.items, take-map)
