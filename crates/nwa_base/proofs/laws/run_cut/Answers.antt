use Rattle.nwa_base.proofs.WayLemmas.{run_cut}
use Rattle.nwa_base.proofs.laws.run_cut.Goals as goal

pub returns : goal.returns
returns c = run_cut
