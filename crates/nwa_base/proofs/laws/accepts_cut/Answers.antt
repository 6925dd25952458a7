use Rattle.nwa_base.proofs.WayLemmas.{accepts_cut}
use Rattle.nwa_base.proofs.laws.accepts_cut.Goals as goal

pub returns : goal.returns
returns c = accepts_cut
