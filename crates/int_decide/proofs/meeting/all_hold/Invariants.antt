use Rattle.std.proofs.Common.{take}
use Rattle.std.specs.List.{AllByRecursion}
use Rattle.lin_rows.specs.Points.{point_of}
use Rattle.fm_elim.specs.Worth.{HoldsAt}
use Rattle.int_decide.proofs.meeting.all_hold.Given as goal

abbrev pub invariant-loop-row : goal.invariant-loop-row
invariant-loop-row l = AllByRecursion (HoldsAt l.denominator (point_of l.numerators)) (take l.row-index l.rows)
