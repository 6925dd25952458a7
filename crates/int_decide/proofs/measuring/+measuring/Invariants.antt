use Rattle.std.proofs.Common.{length, take}
use Rattle.lin_rows.specs.Systems.{members_of, rows_of}
use Rattle.int_decide.proofs.SizeLaws.{AreMeasured, GroupsMeasured}
use Rattle.int_decide.proofs.measuring.+measuring.Given as goal

abbrev pub invariant-measure-loop-group : goal.invariant-measure-loop-group
invariant-measure-loop-group l = GroupsMeasured l.columns (length (rows_of l.system)) l.sum (members_of (take l.group-index l.group-items))

abbrev pub invariant-measure_members-loop-member : goal.invariant-measure_members-loop-member
invariant-measure_members-loop-member l = AreMeasured l.columns l.sum (take l.member-index l.member-items)
