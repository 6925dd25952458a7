use Rattle.letter_acts.proofs.PointLemmas.{helpers_as_point}
use Rattle.letter_acts.proofs.laws.helpers_as_point.Goals as goal

pub returns : goal.returns
returns c = helpers_as_point
