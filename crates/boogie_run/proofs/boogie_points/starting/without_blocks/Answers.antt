use Rattle.std.proofs.Common.{◌∙◌, List, ap}
use Rattle.boogie_run.specs.BoogiePoints.Points.{Todo, Point}
use Rattle.boogie_run.specs.BoogiePoints.View.{stack_of, stage_of}
use Rattle.boogie_run.proofs.BoogiePoints.StackLaws.{stack_none}
use Rattle.boogie_run.proofs.boogie_points.starting.without_blocks.Goals as goal

pub returns : goal.returns
returns c =
    ap (λ (ts : List Todo). let p : Point = record { stage = stage_of c.args.stage; todo = ts; part = 0 } in p) (ap stack_of c.new.ensures.items ∙ stack_none)
