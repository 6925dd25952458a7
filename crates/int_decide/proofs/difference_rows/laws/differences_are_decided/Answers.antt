use Rattle.int_decide.proofs.DifferenceRows.DecidedDifferences.{differences_decided}
use Rattle.int_decide.proofs.difference_rows.laws.differences_are_decided.Goals as goal

pub returns : goal.returns
returns c = differences_decided c.the_point_is_picked.ensures
