use Rattle.nwa_base.proofs.WayLemmas.{matched_by_counting}
use Rattle.nwa_base.proofs.laws.matched_by_counting.Goals as goal

pub returns : goal.returns
returns c = matched_by_counting
