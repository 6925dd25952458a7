use Rattle.std.proofs.Common.{◌<◌, ◌^◌, arith}
use Rattle.farkas_check.specs.Walks.{goal_at_hand, goals_left}
use Rattle.int_decide.proofs.TaskLists.{count_fits, opens_is}
use Rattle.int_decide.proofs.search.Search.open_cases.Goals as goal

pub overflow_cast-members : goal.overflow_cast-members
overflow_cast-members c =
    let l : c.in-Some.members < 2 ^ 32 =
    count_fits (goal_at_hand c.args.self.now.walk) (goals_left c.args.self.now.walk) _ c.in-Some.members (rw c.in-Some.is at c.in_ok-members.ensures.opens) c.requires.numbered in
    omega arith

pub returns : goal.returns
returns c =
    opens_is c.args.left c.in-Some.members c.args.self.now _ (rw c.in-Some.is at c.in_ok-members.ensures.opens) c.in_ok-push.ensures.items c.in_ok-push_copies.ensures (λ i. c.args.self.now.gap)
    c.requires.paired
