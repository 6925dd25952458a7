use Rattle.nwa_base.proofs.PairLemmas.{is_call_of}
use Rattle.nwa_base.proofs.pairs.on_call.Goals as goal

pub returns : goal.returns
returns c = is_call_of _ _ _ _ _ c.in_ok-call_pairs.ensures c.as_set.ensures
