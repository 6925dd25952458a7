use Rattle.std.proofs.Common.{◌≡◌, ◌∙◌, ℕ, ◌+◌, ◌<◌, Bool, List, ◌∷◌, length, sym, ap, subst, arith}
use Rattle.std.specs.Prelude.{◌&&◌, ◌||◌}
use Rattle.std.specs.List.{AllByRecursion}
use Rattle.lin_rows.specs.Points.{point_of}
use Rattle.triple_rows.specs.declared.predicates.PredNode.{PredNode}
use Rattle.triple_rows.specs.declared.predicates.PredNode.TheVariants.{And, Or}
use Rattle.triple_rows.specs.Predicates.{IsOver, formulas}
use Rattle.triple_rows.specs.Reading.{AreComplete}
use Rattle.triple_rows.proofs.ReadingLaws.{front_is}
use Rattle.triple_rows.proofs.HoldingLaws.{AreHeld, rest_next, held_next, held_stops, on_err, parts_over_and, parts_over_or}
use Rattle.triple_rows.proofs.holding.+trees.Goals as goal
use Rattle.triple_rows.proofs.holding.+trees.Goals.{parts_hold-then-all, parts_hold-else-all, parts_hold-then-one, parts_hold-else-one}

pub parts_hold-returns-in_err-yes-clause-past : goal.parts_hold-returns-in_err-yes-clause-past
parts_hold-returns-in_err-yes-clause-past t c =
    on_err c.from_residual.result _
    (held_stops (point_of c.args.values.now) c.args.count c.loop-i._i c.args.nodes.now c.loop-i.rest.now c.loop-i.invariant.0 c.loop-i-test.true c.requires.enough c.in_err-yes.ensures.past)

pub parts_hold-loop-i-preserved : goal.parts_hold-loop-i-preserved
parts_hold-loop-i-preserved t c =
    let nodes = c.args.nodes.now in
    let left = c.loop-i.rest.now in
    let i = c.loop-i._i in
    let within : i < length (formulas nodes) = (let l = c.loop-i-test.true in let m = c.requires.enough in omega (arith, l, m)) in
    let held = held_next (point_of c.args.values.now) i nodes left c.loop-i.all c.loop-i.one c.in_ok-yes.yes c.loop-i.invariant.1 c.loop-i.invariant.0 within
    c.in_ok-yes.ensures.value c.in_ok-yes.ensures.fits in
    let all : c.if-all.all ≡ (c.loop-i.all && c.in_ok-yes.yes) = elim c.if-all.branch [
      | parts_hold-then-all w ↦ w.all-is ∙ sym (ap (λ (a : Bool). a && c.in_ok-yes.yes) w.if-all.true)
      | parts_hold-else-all w ↦ w.all-is ∙ w.if-all.false ∙ sym (ap (λ (a : Bool). a && c.in_ok-yes.yes) w.if-all.false)
    ] in
    let one : c.if-one.one ≡ (c.loop-i.one || c.in_ok-yes.yes) = elim c.if-one.branch [
      | parts_hold-then-one w ↦ w.one-is ∙ w.if-one.true ∙ sym (ap (λ (a : Bool). a || c.in_ok-yes.yes) w.if-one.true)
      | parts_hold-else-one w ↦ w.one-is ∙ sym (ap (λ (a : Bool). a || c.in_ok-yes.yes) w.if-one.false)
    ] in (
      rest_next i nodes left c.in_ok-yes.behind.now c.loop-i.invariant.0 c.in_ok-yes.ensures.rest,
      subst (λ (a : Bool). AreHeld (point_of c.args.values.now) (i + 1) nodes a c.if-one.one) (sym all)
          (subst (λ (o : Bool). AreHeld (point_of c.args.values.now) (i + 1) nodes (c.loop-i.all && c.in_ok-yes.yes) o) (sym one) held),
    )

pub parts_hold-returns-clause-all : goal.parts_hold-returns-clause-all
parts_hold-returns-clause-all t c =
    let e : c.loop-i._i ≡ c.args.count = (let l = c.loop-i-test.false in let m = c.loop-i.auto._i-end in omega (arith, l, m)) in
    (subst (λ (n : ℕ). AreHeld (point_of c.args.values.now) n c.args.nodes.now c.loop-i.all c.loop-i.one) e c.loop-i.invariant.1).all_hold

pub parts_hold-returns-clause-one : goal.parts_hold-returns-clause-one
parts_hold-returns-clause-one t c =
    let e : c.loop-i._i ≡ c.args.count = (let l = c.loop-i-test.false in let m = c.loop-i.auto._i-end in omega (arith, l, m)) in
    (subst (λ (n : ℕ). AreHeld (point_of c.args.values.now) n c.args.nodes.now c.loop-i.all c.loop-i.one) e c.loop-i.invariant.1).one_holds

pub tree_holds-parts_hold-requires : goal.tree_holds-parts_hold-requires
tree_holds-parts_hold-requires t c =
    let rest = c.in-Some.rest.now in
    let n = length c.args.values.now in
    let k = c.in-And.parts in
    let e = front_is c.args.nodes.now rest c.in-Some.first.now (And k) c.in-Some.ensures.cases.0 c.in-And.is in
    let h : AreComplete (And k ∷ rest) = subst AreComplete e c.requires.complete in
    let o = parts_over_and n k rest (subst (λ (ns : List PredNode). AllByRecursion (IsOver n) (formulas ns)) e c.requires.over) in
    (omega (arith, c.in-Some.ensures.cases.1), (h.0, (h.1, o)))

pub tree_holds-parts_hold-requires-in-Or : goal.tree_holds-parts_hold-requires-in-Or
tree_holds-parts_hold-requires-in-Or t c =
    let rest = c.in-Some.rest.now in
    let n = length c.args.values.now in
    let k = c.in-Or.parts in
    let e = front_is c.args.nodes.now rest c.in-Some.first.now (Or k) c.in-Some.ensures.cases.0 c.in-Or.is in
    let h : AreComplete (Or k ∷ rest) = subst AreComplete e c.requires.complete in
    let o = parts_over_or n k rest (subst (λ (ns : List PredNode). AllByRecursion (IsOver n) (formulas ns)) e c.requires.over) in
    (omega (arith, c.in-Some.ensures.cases.1), (h.0, (h.1, o)))
