use Rattle.nwa_base.proofs.EdgeLemmas.{entering_none}
use Rattle.nwa_base.proofs.calls.Calls.new.Goals as goal

pub invariant_of-result : goal.invariant_of-result
invariant_of-result c = entering_none _ _ c.new.ensures c.new-2.ensures
