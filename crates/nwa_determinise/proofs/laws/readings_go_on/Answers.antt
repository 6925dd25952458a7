use Rattle.nwa_determinise.proofs.ReadLemmas.{reads_last}
use Rattle.nwa_determinise.proofs.laws.readings_go_on.Goals as goal

pub returns : goal.returns
returns c = reads_last
