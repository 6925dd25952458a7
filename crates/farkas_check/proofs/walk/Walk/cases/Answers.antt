use Rattle.std.proofs.Common.{◌<◌, length, sym, rules}
use Rattle.farkas_check.specs.Walks.{groups_held, goals_left}
use Rattle.farkas_check.proofs.WalkLaws.{held_at, cases_go, cases_other}
use Rattle.farkas_check.proofs.walk.Walk.cases.Goals as goal

pub returns-then-group-members : goal.returns-then-group-members
returns-then-group-members c =
    let w = c.args.self.now in
    let l : w.first < length w.groups.items = search rules in
    let at = held_at w.groups.items w.first c.index-group.result.now l c.index-group.ensures in
    cases_other c.args.members w.rows.items (groups_held w) w.first c.index-group.result.now.now (goals_left w) at.0 at.1 (λ e. c.if-group-members.true (sym e))

pub returns : goal.returns
returns c =
    let w = c.args.self.now in
    let l : w.first < length w.groups.items = search rules in
    let at = held_at w.groups.items w.first c.index-group.result.now l c.index-group.ensures in
    rw c.in_ok-wait.ensures.waits
    (cases_go c.args.members w.rows.items (groups_held w) w.first c.index-group.result.now.now (goals_left w) at.0 at.1 (sym c.if-group-members.false))
