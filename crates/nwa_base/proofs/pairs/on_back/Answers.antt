use Rattle.nwa_base.proofs.PairLemmas.{is_back_of}
use Rattle.nwa_base.proofs.pairs.on_back.Goals as goal

pub returns : goal.returns
returns c =
    is_back_of _ _ _ _ c.as_set-exits.result.items _ _ _ _ c.in_ok-exit_pairs.ensures c.as_set-exits.ensures
    (rw c.as_slice.ensures.value at c.in_ok-by_call.ensures) c.in_ok-joined.ensures c.as_set.ensures
