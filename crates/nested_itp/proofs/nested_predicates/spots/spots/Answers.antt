use Rattle.std.proofs.Common.{get_or, refl, ap, false, ◌∙◌, ◌≡◌, Bool, List, [], ◌∷◌, ◌++◌, ℕ, length, reverse, arith}
use Rattle.nwa_base.specs.declared.letters.Letter.{Letter}
use Rattle.nwa_base.specs.declared.letters.Kind.TheVariants.{Inside}
use Rattle.nested_itp.specs.declared.nested_predicates.spots.Spot.{Spot}
use Rattle.nested_itp.specs.NestedPredicates.Spots.{innermost_spot}
use Rattle.nested_itp.proofs.NestedPredicates.WordLaws.{spots_start, spots_next, spots_done, test_at, tests_counted}
use Rattle.nested_itp.proofs.nested_predicates.spots.spots.Goals as goal

pub loop-i-init : goal.loop-i-init
loop-i-init c =
    let s : Spot = record { proc = c.start_proc.result; own = 0 } in
    spots_start c.args.icfg.now c.args.letters.now s c.push.new.self.items c.push-2.new.self.items
    (ap (λ (p : ℕ). let x : Spot = record { proc = p; own = 0 } in x) c.start_proc.ensures)
    (c.in_ok-push.ensures.items ∙ ap (λ (l : List Spot). l ++ s ∷ []) c.new-frames.ensures.items)
    (c.in_ok-push-2.ensures.items ∙ ap (λ (l : List Spot). l ++ s ∷ []) c.new-spots.ensures.items)

pub bounds-returned-i : goal.bounds-returned-i
bounds-returned-i c =
    let e : length c.args.returned.now ≡ length c.args.letters.now = ap (λ (l : List Bool). length l) c.requires.returned ∙ tests_counted c.args.letters.now in
    omega (arith, e, c.loop-i-test.true)

pub loop-i-preserved : goal.loop-i-preserved
loop-i-preserved c =
    let d : Letter = record { id = 0; kind = Inside; call = 0 } in
    let a : Letter = get_or c.args.letters.now c.loop-i.i d in
    spots_next c.args.icfg.now c.args.letters.now c.loop-i.i a d (get_or c.args.returned.now c.loop-i.i false) c.loop-i.frames.items c.step.new.frames.items c.loop-i.spots.items
    c.push-in-loop-i.new.self.items c.innermost.result c.loop-i-test.true refl
    (ap (λ (l : List Bool). get_or l c.loop-i.i false) c.requires.returned ∙ test_at c.args.letters.now c.loop-i.i c.loop-i-test.true) c.loop-i.invariant
    c.in_ok-step.ensures (c.innermost.ensures ∙ ap (λ (l : List Spot). innermost_spot (reverse l)) c.deref.ensures.value) c.in_ok-push-3.ensures.items

pub returns : goal.returns
returns c = spots_done c.args.icfg.now c.args.letters.now c.loop-i.i c.loop-i.frames.items c.loop-i.spots.items c.loop-i-test.false c.loop-i.invariant
