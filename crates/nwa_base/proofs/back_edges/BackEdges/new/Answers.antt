use Rattle.nwa_base.proofs.EdgeLemmas.{back_indexed_none}
use Rattle.nwa_base.proofs.back_edges.BackEdges.new.Goals as goal

pub invariant_of-result : goal.invariant_of-result
invariant_of-result c = back_indexed_none _ _ _ _ c.new.ensures.items c.new-2.ensures c.new-3.ensures c.new-4.ensures
