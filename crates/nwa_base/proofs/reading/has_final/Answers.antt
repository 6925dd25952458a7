use Rattle.nwa_base.proofs.ReadingLemmas.{has_from_found}
use Rattle.nwa_base.proofs.reading.has_final.Goals as goal

pub returns : goal.returns
returns c = has_from_found c.args.nwa.now _ _ _ c.final_pair.ensures c.is_some.ensures
