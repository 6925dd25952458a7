use Rattle.std.proofs.Common.{arith, sym, refl}
use Rattle.proof_form.proofs.HeightLaws.{low_begins, next, low_stops, low_goes_on}
use Rattle.proof_form.proofs.predicates.are_low.Goals as goal

pub loop-left-init : goal.loop-left-init
loop-left-init c = low_begins _ _ _ refl c.new-heights.ensures.items

pub returns-in-None : goal.returns-in-None
returns-in-None c =
    let x = next _ _ _ _ c.loop-left.heights.items c.take_highest-below.new.heights.items _ _ (omega arith) c.index-nodes-left.is c.loop-left.invariant c.parts.ensures c.take_highest-below.ensures.highest c.take_highest-below.ensures.others in
    sym (low_stops _ _ _ _ _ _ x c.in-None.ensures)

pub loop-left-preserved : goal.loop-left-preserved
loop-left-preserved c =
    let x = next _ _ _ _ c.loop-left.heights.items c.take_highest-below.new.heights.items _ _ (omega arith) c.index-nodes-left.is c.loop-left.invariant c.parts.ensures c.take_highest-below.ensures.highest c.take_highest-below.ensures.others in
    low_goes_on _ _ _ _ _ _ _ _ (omega arith) c.loop-left.invariant.within x c.in-Some.ensures c.in_ok-push-in-Some.ensures.items
