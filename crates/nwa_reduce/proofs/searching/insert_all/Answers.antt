use Rattle.nwa_reduce.proofs.ListLemmas.{number_there}
use Rattle.nwa_reduce.proofs.SearchLemmas.{inserts_none, inserts_more, inserts_all}
use Rattle.std.proofs.Common.{arith}
use Rattle.nwa_reduce.proofs.searching.insert_all.Goals as goal

pub loop-state-init : goal.loop-state-init
loop-state-init c = inserts_none _

pub loop-state-preserved : goal.loop-state-preserved
loop-state-preserved c =
    inserts_more _ _ _ c.loop-state.found _ _ _ c.loop-state-test.true (number_there c.loop-state.found _) c.loop-state.invariant
    c.in_ok-insert.ensures

pub returns : goal.returns
returns c = inserts_all _ _ _ c.loop-state.state-index (omega arith) c.loop-state.invariant
