use Rattle.std.proofs.Common.{◌≡◌, ◌-◌, length, drop, sym, ◌∙◌, rules, arith}
use Rattle.std.specs.Vec.{vec_len}
use Rattle.cond_jumps.specs.FreeProducts.LetterView.{seen}
use Rattle.cond_jumps.proofs.FreeProducts.LetterAnswers.{products_begin, helper_index, products_turn}
use Rattle.cond_jumps.proofs.free_products.ties.products_of.Goals as goal

pub loop-place-init : goal.loop-place-init
loop-place-init c =
    (omega arith, products_begin (seen c.args.span.now) c.args.rows.now c.in_ok-products.products.items c.args.span.now.base (c.args.span.now.top - c.args.span.now.base) c.in_ok-products.ensures)

pub index_mut-requires : goal.index_mut-requires
index_mut-requires c =
    let l =
    helper_index (seen c.args.span.now) c.index-rows-place.result c.in-Some.product c.in-Some.helper (drop c.loop-place.place c.args.rows.now) c.loop-place.products.items
    (sym c.tied.ensures ∙ c.in-Some.is) c.loop-place.invariant.1 in
    let k : vec_len c.loop-place.products ≡ length c.loop-place.products.items = search rules in
    omega (arith, l, k)

pub loop-place-preserved-in-Some : goal.loop-place-preserved-in-Some
loop-place-preserved-in-Some c =
    let l = c.loop-place.invariant.0 in (
      omega (arith, l),
      products_turn (seen c.args.span.now) c.args.rows.now c.loop-place.place c.index-rows-place.result c.loop-place.products.items c.in-Some.product c.in-Some.helper c.loop-place-test.true c.loop-place.invariant.0
          c.index-rows-place.is c.loop-place.invariant.1 (sym c.tied.ensures ∙ c.in-Some.is),
    )
