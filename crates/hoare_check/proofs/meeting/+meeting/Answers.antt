use Rattle.std.proofs.Common.{List, ap, subst}
use Rattle.std.specs.List.{AllByRecursion}
use Rattle.lin_rows.specs.declared.systems.System.{System}
use Rattle.lin_rows.specs.Rows.{LinearRow, Holds}
use Rattle.lin_rows.specs.Systems.{Meets, SomeMember, members_of}
use Rattle.lin_rows.specs.Points.{point_of}
use Rattle.hoare_check.proofs.MeetingLaws.{some_at, group_more, all_met}
use Rattle.hoare_check.proofs.meeting.+meeting.Goals as goal

pub is_met-loop-group-preserved : goal.is_met-loop-group-preserved
is_met-loop-group-preserved t c =
    group_more (Meets (point_of c.args.point.now)) c.deref-group-items.result.now c.loop-group.group-index c.group-item.result c.loop-group-test.true c.group-item.is
    c.loop-group.invariant (c.has_met_member.ensures c.if-not-has_met_member.false)

pub is_met-returns : goal.is_met-returns
is_met-returns t c = λ yes.
    all_met (point_of c.args.point.now) c.args.system.now c.deref-group-items.result.now c.loop-group.group-index (ap members_of c.deref-group-items.ensures.value)
    c.loop-group-test.false
    (subst (λ (rows : List LinearRow). AllByRecursion (Holds (point_of c.args.point.now)) rows) c.deref.ensures.value (c.all_hold.ensures.holds c.if-not-all_hold.false))
    c.loop-group.invariant

pub has_met_member-returns-then-is_met : goal.has_met_member-returns-then-is_met
has_met_member-returns-then-is_met t c = λ yes.
    subst (λ (ms : List System). SomeMember (Meets (point_of c.args.point.now)) ms) c.deref-member-items.ensures.value
    (some_at (Meets (point_of c.args.point.now)) c.deref-member-items.result.now c.loop-member.member-index c.member-item.result c.loop-member-test.true c.member-item.is
    (c.is_met.ensures c.if-is_met.true))
