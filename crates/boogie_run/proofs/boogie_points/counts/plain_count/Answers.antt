use Rattle.std.proofs.Common.{List, ap, sym, map, not, refl, arith}
use Rattle.typed_tree.specs.declared.types.TInv.{TInv}
use Rattle.typed_tree.specs.TypedView as view
use Rattle.typed_tree.specs.TypingRules.Counts.{one_if, plain_invariants}
use Rattle.boogie_run.proofs.FoundSteps.{counted_on}
use Rattle.boogie_run.proofs.boogie_points.counts.plain_count.Goals as goal
use Rattle.boogie_run.proofs.boogie_points.counts.plain_count.Goals.{then-not-condition, else-not-condition}

pub loop-condition-preserved : goal.loop-condition-preserved
loop-condition-preserved c =
    let given = λ (is : List TInv). plain_invariants (map view.invariant is) in
    elim c.if-not-condition.branch [
      | then-not-condition w ↦
          counted_on given c.args.conditions.now c.loop-condition.condition-index c.condition-item.result c.loop-condition.count _ 1 _ _ c.loop-condition-test.true c.condition-item.is (λ rest. refl)
          (sym (ap (λ b. one_if (not b)) w.if-not-condition.true)) w.count-is c.loop-condition.invariant
      | else-not-condition w ↦
          counted_on given c.args.conditions.now c.loop-condition.condition-index c.condition-item.result c.loop-condition.count _ 0 _ _ c.loop-condition-test.true c.condition-item.is (λ rest. refl)
          (sym (ap (λ b. one_if (not b)) w.if-not-condition.false)) (omega (arith, w.count-is)) c.loop-condition.invariant
    ]
