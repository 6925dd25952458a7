use Rattle.nwa_base.proofs.WayLemmas.{moves_matched}
use Rattle.nwa_base.proofs.laws.moves_matched.Goals as goal

pub returns : goal.returns
returns c = moves_matched
