use Rattle.std.proofs.Common.{rules, ap, Err, FitsSigned}
use Rattle.std.specs.Int.{w128}
use Rattle.std.proofs.lemmas.Int.{to_z-of_z}
use Rattle.cond_jumps.proofs.FreeProducts.LetterAnswers.{placed_made, placed_sums_fit}
use Rattle.cond_jumps.proofs.free_products.letters.placed_row.Goals as goal

pub returns-in-Ok : goal.returns-in-Ok
returns-in-Ok c =
    let f : FitsSigned w128 c.bound.result = search rules in
    let v = simp to_z-of_z at c.in-Ok.ensures.value in
    placed_made c.args.places.now c.args.given.now c.in-Ok.made c.as_slice.result.now c.in_ok-terms.terms.items c.terms.result.now c.kind.result c.bound.result
    (c.requires.valid c.terms.ensures.valid) v c.as_slice.ensures.value c.in_ok-terms.ensures c.terms.ensures.value c.kind.ensures c.bound.ensures

pub unreachable-requires : goal.unreachable-requires
unreachable-requires c =
    let f : FitsSigned w128 c.bound.result = search rules in
    let k = simp to_z-of_z at (c.in-Err-Past.ensures.past (ap Err c.in-Err-Past.field-0-is)) in
    k (placed_sums_fit c.args.places.now c.args.given.now c.as_slice.result.now c.in_ok-terms.terms.items c.terms.result.now c.bound.result (c.requires.valid c.terms.ensures.valid)
    c.as_slice.ensures.value c.in_ok-terms.ensures c.terms.ensures.value c.bound.ensures)
