use Rattle.std.proofs.Common.{◌∙◌, List, length, length-append, ap, sym, map, arith}
use Rattle.typed_tree.specs.declared.types.TSpec.{TSpec}
use Rattle.typed_tree.specs.TypedView as view
use Rattle.boogie_run.specs.BoogiePoints.Actions.{free_conditions}
use Rattle.boogie_run.proofs.BoogiePoints.ConditionLaws.{free_step}
use Rattle.boogie_run.proofs.FoundSteps.{counted_on}
use Rattle.boogie_run.proofs.boogie_points.counts.granted.Goals as goal
use Rattle.boogie_run.proofs.boogie_points.counts.granted.Goals.{in-Some, in_default}

pub loop-said-preserved : goal.loop-said-preserved
loop-said-preserved c =
    let given = λ (ss : List TSpec). length (free_conditions (map view.specification ss)) in
    let more = λ (ss : List TSpec). ap length (free_step (view.specification c.said-item.result) (map view.specification ss)) ∙ length-append _ _ in
    elim c.match-free_requires.branch [
      | in-Some w ↦
          record {
            within = omega (arith, w.count-is, c.loop-said.invariant.within);
            counted =
                counted_on given c.args.specs.now c.loop-said.said-index c.said-item.result c.loop-said.count _ 1 _ _ c.loop-said-test.true c.said-item.is more (sym (ap length w.in-Some.ensures)) w.count-is
                c.loop-said.invariant.counted;
          }
      | in_default w ↦
          record {
            within = omega (arith, w.count-is, c.loop-said.invariant.within);
            counted =
                counted_on given c.args.specs.now c.loop-said.said-index c.said-item.result c.loop-said.count _ 0 _ _ c.loop-said-test.true c.said-item.is more (sym (ap length w.in_default.ensures))
                (omega (arith, w.count-is)) c.loop-said.invariant.counted;
          }
    ]
