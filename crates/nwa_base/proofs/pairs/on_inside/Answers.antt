use Rattle.nwa_base.proofs.PairLemmas.{is_inside_of}
use Rattle.nwa_base.proofs.pairs.on_inside.Goals as goal

pub returns : goal.returns
returns c = is_inside_of _ _ _ _ _ c.in_ok-inside_pairs.ensures c.as_set.ensures
