use Rattle.nwa_base.proofs.WayLemmas.{moves_cut}
use Rattle.nwa_base.proofs.laws.moves_cut.Goals as goal

pub returns : goal.returns
returns c = moves_cut
