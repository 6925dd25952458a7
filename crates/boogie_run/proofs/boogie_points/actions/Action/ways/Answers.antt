use Rattle.boogie_run.specs.BoogiePoints.View.{action_view}
use Rattle.boogie_run.proofs.BoogiePoints.ToldLaws.{ways_told}
use Rattle.boogie_run.proofs.boogie_points.actions.Action.ways.Goals as goal

pub returns : goal.returns
returns c = λ a e. ways_told a (action_view c.args.self.now) c.count.result c.count.ensures e
