use Rattle.std.proofs.Common.{◌≡◌, ℕ, ◌<◌, List, ◌∷◌, length, take, refl, subst, arith, rules}
use Rattle.std.specs.Prelude.{slice_index}
use Rattle.std.specs.List.{AllByRecursion}
use Rattle.triple_rows.specs.declared.predicates.PredNode.{PredNode}
use Rattle.triple_rows.specs.declared.predicates.PredNode.TheVariants.{And, Or}
use Rattle.triple_rows.specs.Predicates.{IsOver, HasInequalities, bundled, formulas, formula_of}
use Rattle.triple_rows.specs.Reading.{AreComplete}
use Rattle.triple_rows.specs.Ties.Drafts.{stated, members_stated}
use Rattle.triple_rows.proofs.ReadingLaws.{front_is}
use Rattle.triple_rows.proofs.HoldingLaws.{rest_next, parts_over_and, parts_over_or}
use Rattle.triple_rows.proofs.DraftLaws.{adds_group, draft_is}
use Rattle.triple_rows.proofs.AddingLaws.{IsGathering, adding_next, adding_stops, gathering_next, gathering_stops, parts_inequalities_and, parts_inequalities_or}
use Rattle.triple_rows.proofs.adding.+adding.Goals as goal

pub add_group-returns-in_err-rest-clause-past : goal.add_group-returns-in_err-rest-clause-past
add_group-returns-in_err-rest-clause-past t c = λ e h.
    gathering_stops c.args.deny (slice_index c.args.columns.now) c.args.count c.loop-i._i c.args.nodes.now c.loop-i.rest.now c.loop-i.invariant.0 c.loop-i-test.true c.requires.enough
    (c.in_err-rest.ensures.past (search rules)) h

pub add_parts-returns-in_err-rest-clause-past : goal.add_parts-returns-in_err-rest-clause-past
add_parts-returns-in_err-rest-clause-past t c = λ e h.
    adding_stops c.args.deny (slice_index c.args.columns.now) c.args.count c.loop-i._i c.args.nodes.now c.loop-i.rest.now c.loop-i.invariant.0 c.loop-i-test.true c.requires.enough
    (c.in_err-rest.ensures.past (search rules)) h

pub add_parts-loop-i-preserved : goal.add_parts-loop-i-preserved
add_parts-loop-i-preserved t c =
    let nodes = c.args.nodes.now in
    let left = c.loop-i.rest.now in
    let i = c.loop-i._i in
    let within : i < length (formulas nodes) = (let l = c.loop-i-test.true in let m = c.requires.enough in omega (arith, l, m)) in (
      rest_next i nodes left c.in_ok-rest.rest.now c.loop-i.invariant.0 c.in_ok-rest.ensures.rest,
      adding_next c.args.deny (slice_index c.args.columns.now) i nodes left c.args.draft.now c.loop-i.draft c.add_tree.new.draft c.loop-i.invariant.1 c.loop-i.invariant.0 within
          c.in_ok-rest.ensures.adds c.in_ok-rest.ensures.fits,
    )

pub add_group-loop-i-preserved : goal.add_group-loop-i-preserved
add_group-loop-i-preserved t c =
    let nodes = c.args.nodes.now in
    let left = c.loop-i.rest.now in
    let i = c.loop-i._i in
    let to = slice_index c.args.columns.now in
    let within : i < length (formulas nodes) = (let l = c.loop-i-test.true in let m = c.requires.enough in omega (arith, l, m)) in (
      rest_next i nodes left c.in_ok-rest.rest.now c.loop-i.invariant.0 c.in_ok-rest.ensures.rest,
      gathering_next c.args.deny to i nodes left c.loop-i.members.items c.push.new.self.items c.finish.result c.loop-i.invariant.1 c.loop-i.invariant.0 within
          (draft_is (stated c.args.deny to (formula_of left)) c.new-member.result c.add_tree.new.draft c.finish.result c.new-member.ensures.rows c.new-member.ensures.groups c.in_ok-rest.ensures.adds
          c.finish.ensures.rows c.finish.ensures.groups)
          c.in_ok-rest.ensures.fits c.in_ok-push.ensures.items,
    )

pub add_group-returns-clause-adds : goal.add_group-returns-clause-adds
add_group-returns-clause-adds t c =
    let e : c.loop-i._i ≡ c.args.count = (let l = c.loop-i-test.false in let m = c.loop-i.auto._i-end in omega (arith, l, m)) in
    let to = slice_index c.args.columns.now in
    let ms = members_stated c.args.deny to (bundled (take c.args.count (formulas c.args.nodes.now))) in
    let h : IsGathering c.args.deny to c.args.count c.args.nodes.now c.loop-i.members.items =
    subst (λ (n : ℕ). IsGathering c.args.deny to n c.args.nodes.now c.loop-i.members.items) e c.loop-i.invariant.1 in
    adds_group ms c.loop-i.members c.args.draft.now (record { rows = c.args.draft.now.rows; groups = c.push-2.new.self }) h.are_members refl c.in_ok-push-2.ensures.items

pub add_tree-add_group-requires : goal.add_tree-add_group-requires
add_tree-add_group-requires t c =
    let rest = c.in-Some.rest.now in
    let n = length c.args.columns.now in
    let k = c.in-And.parts in
    let e = front_is c.args.nodes.now rest c.in-Some.first.now (And k) c.in-Some.ensures.cases.0 c.in-And.is in
    let h : AreComplete (And k ∷ rest) = subst AreComplete e c.requires.complete in
    let o = parts_over_and n k rest (subst (λ (ns : List PredNode). AllByRecursion (IsOver n) (formulas ns)) e c.requires.over) in
    let i = parts_inequalities_and k rest (subst (λ (ns : List PredNode). AllByRecursion HasInequalities (formulas ns)) e c.requires.inequalities) in
    (omega (arith, c.in-Some.ensures.cases.1), (h.0, (h.1, (o, (i, c.requires.differ)))))

pub add_tree-add_parts-requires : goal.add_tree-add_parts-requires
add_tree-add_parts-requires t c =
    let rest = c.in-Some.rest.now in
    let n = length c.args.columns.now in
    let k = c.in-And.parts in
    let e = front_is c.args.nodes.now rest c.in-Some.first.now (And k) c.in-Some.ensures.cases.0 c.in-And.is in
    let h : AreComplete (And k ∷ rest) = subst AreComplete e c.requires.complete in
    let o = parts_over_and n k rest (subst (λ (ns : List PredNode). AllByRecursion (IsOver n) (formulas ns)) e c.requires.over) in
    let i = parts_inequalities_and k rest (subst (λ (ns : List PredNode). AllByRecursion HasInequalities (formulas ns)) e c.requires.inequalities) in
    (omega (arith, c.in-Some.ensures.cases.1), (h.0, (h.1, (o, (i, c.requires.differ)))))

pub add_tree-add_parts-requires-then-deny-2 : goal.add_tree-add_parts-requires-then-deny-2
add_tree-add_parts-requires-then-deny-2 t c =
    let rest = c.in-Some.rest.now in
    let n = length c.args.columns.now in
    let k = c.in-Or.parts in
    let e = front_is c.args.nodes.now rest c.in-Some.first.now (Or k) c.in-Some.ensures.cases.0 c.in-Or.is in
    let h : AreComplete (Or k ∷ rest) = subst AreComplete e c.requires.complete in
    let o = parts_over_or n k rest (subst (λ (ns : List PredNode). AllByRecursion (IsOver n) (formulas ns)) e c.requires.over) in
    let i = parts_inequalities_or k rest (subst (λ (ns : List PredNode). AllByRecursion HasInequalities (formulas ns)) e c.requires.inequalities) in
    (omega (arith, c.in-Some.ensures.cases.1), (h.0, (h.1, (o, (i, c.requires.differ)))))

pub add_tree-add_group-requires-else-deny-2 : goal.add_tree-add_group-requires-else-deny-2
add_tree-add_group-requires-else-deny-2 t c =
    let rest = c.in-Some.rest.now in
    let n = length c.args.columns.now in
    let k = c.in-Or.parts in
    let e = front_is c.args.nodes.now rest c.in-Some.first.now (Or k) c.in-Some.ensures.cases.0 c.in-Or.is in
    let h : AreComplete (Or k ∷ rest) = subst AreComplete e c.requires.complete in
    let o = parts_over_or n k rest (subst (λ (ns : List PredNode). AllByRecursion (IsOver n) (formulas ns)) e c.requires.over) in
    let i = parts_inequalities_or k rest (subst (λ (ns : List PredNode). AllByRecursion HasInequalities (formulas ns)) e c.requires.inequalities) in
    (omega (arith, c.in-Some.ensures.cases.1), (h.0, (h.1, (o, (i, c.requires.differ)))))
