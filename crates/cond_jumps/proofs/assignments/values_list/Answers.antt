use Rattle.std.proofs.Common.{◌≡◌, ◌+◌, ◌-◌, false, map, drop, subst, arith}
use Rattle.typed_tree.specs.declared.types.TExpr.{TExpr}
use Rattle.typed_tree.specs.TypedView.{expression}
use Rattle.cond_jumps.specs.Conjunctions.{Plan, all_fit}
use Rattle.cond_jumps.specs.Environments.{Environment}
use Rattle.cond_jumps.specs.Frames.{frame_environment}
use Rattle.cond_jumps.specs.ListView.{IsPlanList}
use Rattle.cond_jumps.specs.Paths.{assigns}
use Rattle.cond_jumps.proofs.EvenLemmas.{frame_even}
use Rattle.cond_jumps.proofs.AssignAnswers.{gets_value, assigns_step, left_even, value_fault}
use Rattle.cond_jumps.proofs.PairAnswers.{unfit, list_handed_on}
use Rattle.cond_jumps.proofs.PlanAnswers.{with_built}
use Rattle.cond_jumps.proofs.assignments.values_list.Goals as goal

pub loop-place-preserved : goal.loop-place-preserved
loop-place-preserved c =
    let v : Environment = frame_environment c.args.frame.now.columns.items in
    let x : TExpr = c.index-values-place.result in
    let P : Plan → Type 0 = λ p. IsPlanList p c.args.base c.in_ok-all-2.all in
    let Q : TExpr → Type 0 = λ y. IsPlanList (gets_value v y (c.args.first + (c.loop-place.place - 1))) c.args.base c.in_ok-one.one in
    let h : Q x = c.in_ok-one.ensures in (
      omega arith,
      subst P (assigns_step v c.args.first c.loop-place.place c.args.values.now x c.loop-place-test.true c.loop-place.invariant.0 c.index-values-place.is)
          (with_built (gets_value v x (c.args.first + (c.loop-place.place - 1))) (assigns v (c.args.first + c.loop-place.place) (map expression (drop c.loop-place.place c.args.values.now)))
          c.args.base c.in_ok-one.one c.loop-place.all c.in_ok-all-2.all c.as_slice.result.now c.as_slice-in-loop-place.result.now
          (left_even v c.args.base c.args.first c.loop-place.place c.args.values.now (frame_even c.args.base c.args.frame.now.columns.items c.requires.frame) c.requires.targets c.loop-place.invariant.0)
          h c.loop-place.invariant.1 c.as_slice.ensures.value c.as_slice-in-loop-place.ensures.value c.in_ok-all-2.ensures),
    )

pub returns-in_err-one : goal.returns-in_err-one
returns-in_err-one c =
    let v : Environment = frame_environment c.args.frame.now.columns.items in
    let x : TExpr = c.index-values-place.result in
    list_handed_on (assigns v c.args.first (map expression c.args.values.now)) c.args.base c.from_residual-in_err-one.result c.in_err-one.field-0.0 c.from_residual-in_err-one.ensures.1
    (λ e. value_fault (λ p. all_fit p c.args.base ≡ false) (unfit c.args.base) v c.args.first c.loop-place.place c.args.values.now x c.loop-place-test.true c.loop-place.invariant.0
    c.index-values-place.is (c.in_err-one.ensures e))
