use Rattle.std.proofs.Common.{◌≡◌, ◌-◌, length, ap, ◌∙◌, rules, arith}
use Rattle.std.specs.Vec.{vec_len}
use Rattle.cond_jumps.specs.Conjs.{conjunction}
use Rattle.cond_jumps.specs.FreeProducts.Letters.{ProductSpan}
use Rattle.cond_jumps.specs.FreeProducts.LetterView.{seen, numbered}
use Rattle.cond_jumps.proofs.FreeProducts.LetterAnswers.{place_length, helpers_are, kept_valid, letter_of_rows}
use Rattle.cond_jumps.proofs.free_products.letters.letter_within.Goals as goal

pub index-requires : goal.index-requires
index-requires c =
    let s : ProductSpan = seen c.args.span.now in
    let f : c.in_ok-places.places.items ≡ numbered 0 c.in_ok-out.out.items = c.in_ok-places.ensures ∙ ap (numbered 0) c.as_slice-2.ensures.value in
    let l = place_length s c.as_slice-rows.result.now c.in_ok-out.out.items c.in_ok-places.places.items c.in_ok-out.ensures f in
    let k : vec_len c.in_ok-places.places ≡ length c.in_ok-places.places.items = search rules in
    omega (arith, l, k)

pub index-requires-2 : goal.index-requires-2
index-requires-2 c =
    let s : ProductSpan = seen c.args.span.now in
    let f : c.in_ok-places.places.items ≡ numbered 0 c.in_ok-out.out.items = c.in_ok-places.ensures ∙ ap (numbered 0) c.as_slice-2.ensures.value in
    let l = place_length s c.as_slice-rows.result.now c.in_ok-out.out.items c.in_ok-places.places.items c.in_ok-out.ensures f in
    let k : vec_len c.in_ok-places.places ≡ length c.in_ok-places.places.items = search rules in
    let t = c.requires.span.end in
    omega (arith, l, k, t)

pub overflow_sub-helpers : goal.overflow_sub-helpers
overflow_sub-helpers c =
    let s : ProductSpan = seen c.args.span.now in
    let f : c.in_ok-places.places.items ≡ numbered 0 c.in_ok-out.out.items = c.in_ok-places.ensures ∙ ap (numbered 0) c.as_slice-2.ensures.value in
    let h = helpers_are s c.as_slice-rows.result.now c.args.conj.now.helpers c.requires.span c.in_ok-out.out.items c.in_ok-places.places.items c.in_ok-out.ensures f c.index.result.now c.index-2.result.now
    c.index.ensures c.index-2.ensures in
    omega (arith, h)

pub kept_rows-requires-clause-valid : goal.kept_rows-requires-clause-valid
kept_rows-requires-clause-valid c =
    let s : ProductSpan = seen c.args.span.now in
    let f : c.as_slice-3.result.now ≡ numbered 0 c.in_ok-out.out.items = c.as_slice-3.ensures.value ∙ c.in_ok-places.ensures ∙ ap (numbered 0) c.as_slice-2.ensures.value in
    kept_valid s c.as_slice-rows.result.now c.args.conj.now.helpers c.requires.span c.in_ok-out.out.items c.as_slice-3.result.now c.in_ok-out.ensures f

pub returns : goal.returns
returns c =
    let s : ProductSpan = seen c.args.span.now in
    let f : c.in_ok-places.places.items ≡ numbered 0 c.in_ok-out.out.items = c.in_ok-places.ensures ∙ ap (numbered 0) c.as_slice-2.ensures.value in
    let g : c.as_slice-3.result.now ≡ numbered 0 c.in_ok-out.out.items = c.as_slice-3.ensures.value ∙ f in
    let h = helpers_are s c.as_slice-rows.result.now c.args.conj.now.helpers c.requires.span c.in_ok-out.out.items c.in_ok-places.places.items c.in_ok-out.ensures f c.index.result.now c.index-2.result.now
    c.index.ensures c.index-2.ensures in
    letter_of_rows s (conjunction c.args.conj.now) c.as_slice-rows.result.now c.as_slice-rows.ensures.value c.requires.span c.in_ok-out.out.items c.as_slice-3.result.now c.in_ok-out.ensures g
    c.in_ok-kept_rows.field-0.items (c.index.result.now - c.index-2.result.now) c.all_exact.result c.in_ok-kept_rows.ensures (omega (arith, h)) c.all_exact.ensures
