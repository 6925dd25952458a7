use Rattle.std.proofs.Common.{◌≡◌, ◌∙◌, ◌<◌, List, length, get_or, map, refl, ap, arith}
use Rattle.nested_itp.specs.NestedPredicates.Positions.{Position, positions_of}
use Rattle.nested_itp.specs.NestedPredicates.Interpolants.{interpolant_at}
use Rattle.nested_itp.specs.declared.nested_predicates.spots.Spot.{Spot}
use Rattle.nested_itp.proofs.NestedPredicates.PredLaws.{formula_at, can_spell, spells_at, position_found, predicate_next, all_positions, spots_counted}
use Rattle.nested_itp.proofs.nested_predicates.preds.predicates.Goals as goal

pub loop-position-init : goal.loop-position-init
loop-position-init c = λ t h. c.in_ok-preds.ensures.items

pub predicate-requires : goal.predicate-requires
predicate-requires c =
    let g = c.args.icfg.now in
    let w = c.args.path.now.word in
    let n : length c.as_slice-spots.result.now ≡ length (positions_of g w) = spots_counted c.as_slice-spots.result.now (positions_of g w) (c.as_slice-spots.ensures.value ∙ c.requires.layout.spots) in
    let l : c.loop-position.position < length (positions_of g w) = (let k = c.loop-position-test.true in omega (arith, n, k)) in
    let q = position_found (positions_of g w) c.loop-position.position l in
    let t = c.requires.table.0 in (
      formula_at g w t q.0,
      spells_at g w t c.args.table.now c.loop-position.position q.0 c.requires.table.1 q.1,
      can_spell g w t q.0 c.requires.table.1.cuts,
    )

pub loop-position-preserved : goal.loop-position-preserved
loop-position-preserved c = λ t h.
    let g = c.args.icfg.now in
    let w = c.args.path.now.word in
    let n : length c.as_slice-spots.result.now ≡ length (positions_of g w) = spots_counted c.as_slice-spots.result.now (positions_of g w) (c.as_slice-spots.ensures.value ∙ c.requires.layout.spots) in
    let l : c.loop-position.position < length (positions_of g w) = (let k = c.loop-position-test.true in omega (arith, n, k)) in
    let q = position_found (positions_of g w) c.loop-position.position l in
    let d : Spot = record { proc = 0; own = 0 } in
    predicate_next g w t c.loop-position.position q.0 c.as_slice-spots.result.now (get_or c.as_slice-spots.result.now c.loop-position.position d) d c.in_ok-predicate.field-0
    c.loop-position.preds.items c.push.new.self.items q.1 (c.as_slice-spots.ensures.value ∙ c.requires.layout.spots) refl
    (c.in_ok-predicate.ensures (formula_at g w t q.0) (spells_at g w t c.args.table.now c.loop-position.position q.0 h q.1) (can_spell g w t q.0 h.cuts)) (c.loop-position.invariant t h)
    c.in_ok-push.ensures.items

pub returns : goal.returns
returns c = λ t h.
    let g = c.args.icfg.now in
    let w = c.args.path.now.word in
    let n : length c.as_slice-spots.result.now ≡ length (positions_of g w) = spots_counted c.as_slice-spots.result.now (positions_of g w) (c.as_slice-spots.ensures.value ∙ c.requires.layout.spots) in
    c.loop-position.invariant t h ∙
    ap (λ (qs : List Position). map (interpolant_at g w t) qs) (all_positions (positions_of g w) c.loop-position.position (let k = c.loop-position-test.false in omega (arith, n, k)))
