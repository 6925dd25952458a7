use Rattle.fm_elim.proofs.PickedPoints.{picked_is_one}
use Rattle.fm_elim.proofs.picked_points_are_one.Goals as goal

pub returns : goal.returns
returns c = picked_is_one
