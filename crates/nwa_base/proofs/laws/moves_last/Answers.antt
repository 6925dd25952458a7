use Rattle.nwa_base.proofs.WayLemmas.{moves_last}
use Rattle.nwa_base.proofs.laws.moves_last.Goals as goal

pub returns : goal.returns
returns c = moves_last
