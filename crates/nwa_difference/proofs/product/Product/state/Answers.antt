use Rattle.std.proofs.Common.{◌∙◌, ◌<◌, ◌^◌, refl, sym, true, false, arith}
use Rattle.nwa_difference.specs.Ties.Seen.{seen}
use Rattle.nwa_difference.proofs.MakingLemmas.{state_extends_at, extends_same, not_new, is_new, fits_more, state_there, at_ok, product_final, state_last, place_small}
use Rattle.nwa_difference.proofs.product.Product.state.Goals as goal

pub returns-then-not-is_new-clause-extends : goal.returns-then-not-is_new-clause-extends
unfolding seen
returns-then-not-is_new-clause-extends c =
    extends_same (seen c.args.self.now) _ c.requires.made
    (not_new _ _ _ _ _ c.in_ok-place.ensures.keys c.in_ok-place.ensures.len c.if-not-is_new.true)

pub returns-then-not-is_new-clause-state : goal.returns-then-not-is_new-clause-state
unfolding seen
returns-then-not-is_new-clause-state c =
    let k = c.in_ok-place.ensures.stored in
    state_there (record (seen c.args.self.now) { states = c.insert_full.new.self.keys }) c.in_ok-place.place c.args.first c.args.set k.0
    c.in_ok-place.ensures.within k.1 k.2

pub returns-in_ok-in_memory-clause-extends : goal.returns-in_ok-in_memory-clause-extends
unfolding seen
returns-in_ok-in_memory-clause-extends c =
    state_extends_at (seen c.args.self.now) c.args.first c.args.set true _ _ c.requires.made
    (fits_more c.args.self.now.nwa.states false c.in_ok-state.ensures.full refl c.requires.made.small) c.requires.set c.if-ends.ensures
    (product_final c.args.self.now.nwa c.add_state.new.self c.set_final.new.self c.in_ok-state.state c.in_ok-state.ensures.ok c.in_ok-state.ensures.number
    (at_ok c.set_final.result c.in_ok-in_memory.field-0 _ c.in_ok-in_memory.ensures c.set_final.ensures.ok))
    (is_new _ _ _ _ _ c.in_ok-place.ensures.keys c.in_ok-place.ensures.len c.if-not-is_new.false)

pub returns-else-ends-clause-extends : goal.returns-else-ends-clause-extends
unfolding seen
returns-else-ends-clause-extends c =
    state_extends_at (seen c.args.self.now) c.args.first c.args.set false _ _ c.requires.made
    (fits_more c.args.self.now.nwa.states false c.in_ok-state.ensures.full refl c.requires.made.small) c.requires.set c.if-ends.ensures
    c.in_ok-state.ensures.ok (is_new _ _ _ _ _ c.in_ok-place.ensures.keys c.in_ok-place.ensures.len c.if-not-is_new.false)

pub returns-in_ok-in_memory-clause-state : goal.returns-in_ok-in_memory-clause-state
unfolding seen
returns-in_ok-in_memory-clause-state c =
    state_last (record (seen c.args.self.now) { product = c.set_final.new.self; states = c.insert_full.new.self.keys }) c.args.self.now.states.keys
    c.in_ok-state.state c.args.first c.args.set
    (is_new _ _ _ _ _ c.in_ok-place.ensures.keys c.in_ok-place.ensures.len c.if-not-is_new.false)
    (c.in_ok-state.ensures.number ∙ sym c.requires.made.count)

pub returns-else-ends-clause-state : goal.returns-else-ends-clause-state
unfolding seen
returns-else-ends-clause-state c =
    state_last (record (seen c.args.self.now) { product = c.add_state.new.self; states = c.insert_full.new.self.keys }) c.args.self.now.states.keys
    c.in_ok-state.state c.args.first c.args.set
    (is_new _ _ _ _ _ c.in_ok-place.ensures.keys c.in_ok-place.ensures.len c.if-not-is_new.false)
    (c.in_ok-state.ensures.number ∙ sym c.requires.made.count)

pub overflow_cast-result : goal.overflow_cast-result
unfolding seen
overflow_cast-result c =
    let small : c.in_ok-place.place < 2 ^ 32 =
    place_small _ _ c.in_ok-place.place _ c.in_ok-place.ensures.within
    (not_new _ _ _ _ _ c.in_ok-place.ensures.keys c.in_ok-place.ensures.len c.if-not-is_new.true) c.requires.made.count c.requires.made.small in
    omega arith
