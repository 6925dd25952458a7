use Rattle.fm_elim.proofs.PickedPoints.{point_is_picked}
use Rattle.fm_elim.proofs.the_point_is_picked.Goals as goal

pub returns : goal.returns
returns c = point_is_picked
