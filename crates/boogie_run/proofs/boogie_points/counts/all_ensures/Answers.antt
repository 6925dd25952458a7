use Rattle.std.proofs.Common.{◌≡◌, ◌+◌, List, [], ◌∷◌, ap, sym, map, refl, arith}
use Rattle.typed_tree.specs.declared.types.TInv.{TInv}
use Rattle.typed_tree.specs.declared.types.TSpec.{TSpec}
use Rattle.typed_tree.specs.declared.types.TSpec.TheVariants as specs
use Rattle.typed_tree.specs.TypedTree.{TypedSpecification, Requires, Ensures}
use Rattle.typed_tree.specs.TypedView as view
use Rattle.typed_tree.specs.TypingRules.Counts.{all_ensures}
use Rattle.boogie_run.proofs.FoundSteps.{counted_on}
use Rattle.boogie_run.proofs.boogie_points.counts.all_ensures.Goals as goal
use Rattle.boogie_run.proofs.boogie_points.counts.all_ensures.Goals.{in-Ensures, in_default}

one_more : (s : TypedSpecification) (ss : List TypedSpecification) → all_ensures (s ∷ ss) ≡ all_ensures (s ∷ []) + all_ensures ss
one_more (Requires i) ss = omega arith
one_more (Ensures i) ss = omega arith

none : (s : TSpec) → ((i : TInv) → s ≡ specs.Ensures i → ⊥) → 0 ≡ all_ensures (view.specification s ∷ [])
none (specs.Requires i) h = refl
none (specs.Ensures i) h = absurd (h i refl)

pub loop-said-preserved : goal.loop-said-preserved
loop-said-preserved c =
    let given = λ (ss : List TSpec). all_ensures (map view.specification ss) in
    elim c.match-said.branch [
      | in-Ensures w ↦
          counted_on given c.args.specs.now c.loop-said.said-index c.said-item.result c.loop-said.count _ 1 _ _ c.loop-said-test.true c.said-item.is
          (λ ss. one_more (view.specification c.said-item.result) (map view.specification ss)) (sym (ap (λ s. all_ensures (view.specification s ∷ [])) w.in-Ensures.is)) w.count-is c.loop-said.invariant
      | in_default w ↦
          counted_on given c.args.specs.now c.loop-said.said-index c.said-item.result c.loop-said.count _ 0 _ _ c.loop-said-test.true c.said-item.is
          (λ ss. one_more (view.specification c.said-item.result) (map view.specification ss)) (none c.said-item.result w.in_default.not-Ensures) (omega (arith, w.count-is)) c.loop-said.invariant
    ]
