use Rattle.std.proofs.Common.{◌<◌, length, rules}
use Rattle.farkas_check.specs.Walks.{groups_held, goals_left}
use Rattle.farkas_check.proofs.WalkLaws.{held_at, opens_at}
use Rattle.farkas_check.proofs.walk.Walk.open_group.Goals as goal

pub returns-in-Ok-clause-opens : goal.returns-in-Ok-clause-opens
returns-in-Ok-clause-opens c =
    let w = c.args.self.now in
    let l : w.first < length w.groups.items = search rules in
    let at = held_at w.groups.items w.first c.index-members.result.now l c.index-members.ensures in
    opens_at w.rows.items (groups_held w) w.first c.index-members.result.now.now (goals_left w) _ at.0 at.1 c.in-Ok.ensures.waits
