use Rattle.std.proofs.Common.{refl}
use Rattle.nwa_difference.specs.Ties.Seen.{seen}
use Rattle.nwa_difference.proofs.GrowingLemmas.{sets_made, sets_extend}
use Rattle.nwa_difference.proofs.EndLemmas.{both_extend, call_end_is, call_end_covered}
use Rattle.nwa_difference.proofs.product.Product.call_end.Goals as goal

pub state-requires-clause-made : goal.state-requires-clause-made
unfolding seen
state-requires-clause-made c = sets_made (seen c.args.self.now) _ c.requires.made c.on_call.ensures.grows

pub returns-clause-state : goal.returns-clause-state
unfolding seen
returns-clause-state c =
    call_end_is (seen c.args.self.now) (seen c.state.new.self) c.on_call.new.self c.args.state c.parts-set.result c.args.letter c.args.end c.in_ok-next.next _
    c.requires.made c.on_call.ensures.grows c.in_ok-to.ensures.extends c.requires.within c.parts-set.ensures c.in_ok-next.ensures.set
    c.in_ok-to.ensures.sets c.in_ok-to.ensures.state

pub returns-clause-extends : goal.returns-clause-extends
unfolding seen
returns-clause-extends c =
    both_extend (seen c.args.self.now) (seen c.state.new.self) c.on_call.new.self c.requires.made c.on_call.ensures.grows c.in_ok-to.ensures.extends

pub returns-then-is_covered-clause-extends : goal.returns-then-is_covered-clause-extends
unfolding seen
returns-then-is_covered-clause-extends c = sets_extend (seen c.args.self.now) c.on_call.new.self c.requires.made c.on_call.ensures.grows

pub returns-then-is_covered-clause-state : goal.returns-then-is_covered-clause-state
unfolding seen
returns-then-is_covered-clause-state c =
    call_end_covered (seen c.args.self.now) c.on_call.new.self c.args.state c.parts-set.result c.args.letter c.args.end c.in_ok-next.next c.requires.made
    c.on_call.ensures.grows c.requires.within c.parts-set.ensures c.in_ok-next.ensures.set
    (rw c.as_slice.ensures.value at (c.if-is_covered.ensures refl))
