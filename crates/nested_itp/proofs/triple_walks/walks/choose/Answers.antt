use Rattle.std.proofs.Common.{◌≡◌, None, Some, rules}
use Rattle.std.specs.Prelude.{slice_get, ◌&&◌}
use Rattle.std.proofs.lemmas.Result.{on_ok_weaker}
use Rattle.nested_itp.specs.TripleWalks.Goals.{plain_goal}
use Rattle.nested_itp.specs.TripleWalks.Spots.{sides_in}
use Rattle.nested_itp.specs.TripleWalks.Stops.{taken_of}
use Rattle.nested_itp.proofs.TripleWalks.WalkLaws.{keeps_taken, keeps_given, member_claimed, member_sided, member_given}
use Rattle.nested_itp.proofs.triple_walks.walks.choose.Goals as goal

pub returns-in_default-clause-goal : goal.returns-in_default-clause-goal
returns-in_default-clause-goal c = λ v g h led at t.
    let e : slice_get c.args.guide.now.claims.now c.args.member.claim ≡ None = c.in_default.ensures in
    absurd (member_claimed v c.args.guide.now c.args.member g h t e)

pub returns-in_default-clause-keeps : goal.returns-in_default-clause-keeps
returns-in_default-clause-keeps c = keeps_taken (plain_goal c.args.goal.now) (plain_goal c.take.new.self) (taken_of c.args.member) c.in_ok-take.ensures

pub returns-in_default-sides-clause-goal : goal.returns-in_default-sides-clause-goal
returns-in_default-sides-clause-goal c = λ v g h led at t.
    let e : sides_in c.args.guide.now.tree.now c.args.member.node ≡ None = search rules in
    absurd (member_sided v c.args.guide.now c.args.member g h t e)

pub returns-in_default-sides-clause-keeps : goal.returns-in_default-sides-clause-keeps
returns-in_default-sides-clause-keeps c = keeps_taken (plain_goal c.args.goal.now) (plain_goal c.take.new.self) (taken_of c.args.member) c.in_ok-take.ensures

pub returns-clause-keeps : goal.returns-clause-keeps
returns-clause-keeps c =
    on_ok_weaker c.give.result
    (λ e. keeps_given (plain_goal c.args.goal.now) (plain_goal c.take.new.self) (plain_goal c.give.new.self) (taken_of c.args.member) c.args.member.claim c.is_used.result
    c.in_ok-given.given.leaves.items c.in_ok-given.given.groups.items c.in_ok-take.ensures e) c.give.ensures

pub returns-clause-goal : goal.returns-clause-goal
returns-clause-goal c =
    on_ok_weaker c.give.result
    (λ e. λ v g h led at t.
    let found : slice_get c.args.guide.now.claims.now c.args.member.claim ≡ Some c.in-Some.claim.now = c.in-Some.ensures in
    let sides : sides_in c.args.guide.now.tree.now c.args.member.node ≡ Some c.in-Some-sides.sides = search rules in
    member_given v c.args.guide.now c.args.member g h (plain_goal c.args.goal.now) (plain_goal c.take.new.self) (plain_goal c.give.new.self) c.in-Some.claim.now c.in-Some-sides.sides c.part_of.result
    c.is_used.result c.in_ok-given.given led c.in_ok-take.ensures found sides c.part_of.ensures c.in_ok-given.ensures c.is_used.ensures e at t) c.give.ensures
