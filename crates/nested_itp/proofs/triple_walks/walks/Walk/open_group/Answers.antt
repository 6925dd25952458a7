use Rattle.std.proofs.Common.{◌≡◌, ◌∙◌, ◌++◌, ◌∷◌, [], List, refl, ap}
use Rattle.farkas_check.specs.declared.refutations.Node.TheVariants.{Cases}
use Rattle.nested_itp.specs.TripleWalks.Goals.{plain_goal, mark_of}
use Rattle.nested_itp.specs.declared.triple_walks.goals.Goal as goals
use Rattle.nested_itp.specs.declared.triple_walks.stops.Taken as member
use Rattle.nested_itp.specs.declared.triple_walks.walks.Begin.TheVariants.{Member}
use Rattle.nested_itp.specs.declared.triple_walks.walks.Waiting as part
use Rattle.nested_itp.proofs.TripleWalks.WalkLaws.{group_there, group_put}
use Rattle.nested_itp.proofs.triple_walks.walks.Walk.open_group.Goals as goal

pub returns-in_default : goal.returns-in_default
returns-in_default c = λ v x first h from stop led at coming. absurd (group_there v x first h from stop c.args.place c.args.self.now at coming c.in_default.ensures.group)

pub returns : goal.returns
returns c = λ v x first h from stop led at coming.
    let one : part.Waiting = record { spot = c.args.place; begin = Member c.member-2.result; mark = mark_of (plain_goal c.wait.new.self.goal) } in
    let two : part.Waiting = record { spot = c.args.place; begin = Member c.member.result; mark = mark_of (plain_goal c.take_group.new.self) } in
    group_put v x first h from stop c.args.place c.args.self.now c.wait-2.new.self c.take_group.new.self c.in-Some.group (Cases 2) one two led at coming c.in-Some.ensures.group c.in-Some.ensures.rest refl
    (ap (λ (g : goals.Goal). record one { mark = mark_of (plain_goal g) }) c.in_ok-wait.ensures.goal ∙
    ap (λ (m : member.Taken). record one { begin = Member m; mark = mark_of (plain_goal c.take_group.new.self) }) c.member-2.ensures)
    (ap (λ (m : member.Taken). record two { begin = Member m }) c.member.ensures)
    (ap (λ l. l.items) (c.in_ok-wait-2.ensures.nodes ∙ c.in_ok-wait.ensures.nodes) ∙ c.in_ok-push.ensures.items) (c.in_ok-wait-2.ensures.goal ∙ c.in_ok-wait.ensures.goal)
    (c.in_ok-wait-2.ensures.waiting ∙ ap (λ (l : List part.Waiting). l ++ one ∷ []) c.in_ok-wait.ensures.waiting)
