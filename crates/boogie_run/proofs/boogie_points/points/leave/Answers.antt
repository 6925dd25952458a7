use Rattle.std.proofs.Common.{refl}
use Rattle.boogie_run.proofs.BoogiePoints.StackLaws.{stack_none}
use Rattle.boogie_run.proofs.boogie_points.points.leave.Goals as goal

pub returns : goal.returns
returns c = rw (c.clear.ensures.items, stack_none) refl
