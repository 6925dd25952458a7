use Rattle.std.proofs.Common.{◌∙◌, ◌+◌, List, ap, map, drop, refl, arith}
use Rattle.std.specs.Prelude.{slice_get}
use Rattle.typed_tree.specs.declared.types.TSpec.{TSpec}
use Rattle.typed_tree.specs.TypedView as view
use Rattle.boogie_run.specs.BoogiePoints.Actions.{free_conditions}
use Rattle.boogie_run.proofs.BoogiePoints.ConditionLaws.{free_step}
use Rattle.boogie_run.proofs.FoundSteps.{none_given, given_here, given_before, none_left}
use Rattle.boogie_run.proofs.boogie_points.conditions.free_condition.Goals as goal
use Rattle.boogie_run.proofs.boogie_points.conditions.free_condition.Goals.{in-Some+else-left-eq0, in_default}

pub loop-said-preserved : goal.loop-said-preserved
loop-said-preserved c =
    let given = λ (ss : List TSpec). free_conditions (map view.specification ss) in
    elim c.match-free_requires.branch [
      | in-Some+else-left-eq0 w ↦
          ap (slice_get (given (drop (c.loop-said.said-index + 1) c.args.specs.now))) w.left-is
          ∙ given_before given c.args.specs.now c.loop-said.said-index c.said-item.result (view.invariant w.in-Some.condition.now) c.loop-said.left _ c.loop-said-test.true c.said-item.is
          (λ s ss. free_step (view.specification s) (map view.specification ss)) w.in-Some.ensures (omega (arith, w.if-left-eq0.false)) c.loop-said.invariant
      | in_default w ↦
          ap (slice_get (given (drop (c.loop-said.said-index + 1) c.args.specs.now))) w.left-is
          ∙ none_given given c.args.specs.now c.loop-said.said-index c.said-item.result c.loop-said.left _ c.loop-said-test.true c.said-item.is
          (λ s ss. free_step (view.specification s) (map view.specification ss)) w.in_default.ensures c.loop-said.invariant
    ]

pub returns-then-left-eq0 : goal.returns-then-left-eq0
returns-then-left-eq0 c =
    given_here (λ (ss : List TSpec). free_conditions (map view.specification ss)) c.args.specs.now c.loop-said.said-index c.said-item.result (view.invariant c.in-Some.condition.now) c.loop-said.left _
    c.loop-said-test.true c.said-item.is (λ s ss. free_step (view.specification s) (map view.specification ss)) c.in-Some.ensures c.if-left-eq0.true c.loop-said.invariant

pub returns : goal.returns
returns c =
    none_left (λ (ss : List TSpec). free_conditions (map view.specification ss)) c.args.specs.now c.loop-said.said-index c.loop-said.left _ c.loop-said-test.false refl c.loop-said.invariant
