use Rattle.nwa_reduce.proofs.NumberLemmas.{signs}
use Rattle.nwa_reduce.proofs.signing.sign.Goals as goal

pub returns : goal.returns
returns c =
    signs _ _ _ _ _ _ _ _ _ c.as_slice.ensures.value c.in_ok-marks.ensures c.in_ok-numbers.ensures c.in_order.ensures.same c.in_order.ensures.ascends
