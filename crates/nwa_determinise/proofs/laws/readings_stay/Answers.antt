use Rattle.nwa_determinise.proofs.KeptLemmas.{from_start_stays}
use Rattle.nwa_determinise.proofs.laws.readings_stay.Goals as goal

pub returns : goal.returns
returns c = from_start_stays
