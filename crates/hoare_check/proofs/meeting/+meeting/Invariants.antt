use Rattle.std.proofs.Common.{take}
use Rattle.lin_rows.specs.Systems.{Meets, EachHasMember, members_of}
use Rattle.lin_rows.specs.Points.{point_of}
use Rattle.hoare_check.proofs.meeting.+meeting.Given as goal

abbrev pub invariant-is_met-loop-group : goal.invariant-is_met-loop-group
invariant-is_met-loop-group l = EachHasMember (Meets (point_of l.point)) (members_of (take l.group-index l.group-items))
