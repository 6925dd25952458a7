use Rattle.std.proofs.Common.{◌≡◌, ℕ, ◌+◌, ◌-◌, true, map, drop, subst, arith}
use Rattle.typed_tree.specs.declared.types.TExpr.{TExpr}
use Rattle.typed_tree.specs.TypedView.{expression}
use Rattle.cond_jumps.specs.Conjunctions.{Plan, is_wide}
use Rattle.cond_jumps.specs.Environments.{Environment}
use Rattle.cond_jumps.specs.Frames.{frame_environment}
use Rattle.cond_jumps.specs.Paths.{assigns}
use Rattle.cond_jumps.specs.Ties.WidthView.{IsWidth}
use Rattle.cond_jumps.proofs.EvenLemmas.{frame_even}
use Rattle.cond_jumps.proofs.AssignAnswers.{gets_value, assigns_step, left_even, step_fault, value_fault}
use Rattle.cond_jumps.proofs.PairAnswers.{wide, width_handed_on}
use Rattle.cond_jumps.proofs.assignments.values_width.Goals as goal

pub loop-place-preserved : goal.loop-place-preserved
loop-place-preserved c =
    let v : Environment = frame_environment c.args.frame.now.columns.items in
    let x : TExpr = c.index-values-place.result in (
      omega arith,
      λ n first l m.
          let P : Plan → Type 0 = λ p. IsWidth p n c.in_ok-all.all in
          subst P (assigns_step v first c.loop-place.place c.args.values.now x c.loop-place-test.true c.loop-place.invariant.0 c.index-values-place.is)
          (c.in_ok-all.ensures (gets_value v x (first + (c.loop-place.place - 1))) (assigns v (first + c.loop-place.place) (map expression (drop c.loop-place.place c.args.values.now))) n
          (left_even v n first c.loop-place.place c.args.values.now (frame_even n c.args.frame.now.columns.items l) m c.loop-place.invariant.0)
          (c.in_ok-gets_width.ensures n (first + (c.loop-place.place - 1)) l (omega arith)) (c.loop-place.invariant.1 n first l m)),
    )

pub returns-in_err-gets_width : goal.returns-in_err-gets_width
returns-in_err-gets_width c = λ n first l m.
    let v : Environment = frame_environment c.args.frame.now.columns.items in
    let x : TExpr = c.index-values-place.result in
    let f = c.in_err-gets_width.ensures n (first + (c.loop-place.place - 1)) l (omega arith) in
    width_handed_on (assigns v first (map expression c.args.values.now)) n c.from_residual.result c.in_err-gets_width.field-0.0 c.from_residual.ensures.1
    ((λ e. value_fault (λ p. is_wide p n ≡ true) (wide n) v first c.loop-place.place c.args.values.now x c.loop-place-test.true c.loop-place.invariant.0 c.index-values-place.is (f.0 e)), f.1)

pub returns-in_err-all : goal.returns-in_err-all
returns-in_err-all c = λ n first l m.
    let v : Environment = frame_environment c.args.frame.now.columns.items in
    let x : TExpr = c.index-values-place.result in
    let f = c.in_err-all.ensures (gets_value v x (first + (c.loop-place.place - 1))) (assigns v (first + c.loop-place.place) (map expression (drop c.loop-place.place c.args.values.now))) n
    (left_even v n first c.loop-place.place c.args.values.now (frame_even n c.args.frame.now.columns.items l) m c.loop-place.invariant.0)
    (c.in_ok-gets_width.ensures n (first + (c.loop-place.place - 1)) l (omega arith)) (c.loop-place.invariant.1 n first l m) in
    width_handed_on (assigns v first (map expression c.args.values.now)) n c.from_residual-in_err-all.result c.in_err-all.field-0.0 c.from_residual-in_err-all.ensures.1
    ((λ e. step_fault (λ p. is_wide p n ≡ true) (wide n) v first c.loop-place.place c.args.values.now x c.loop-place-test.true c.loop-place.invariant.0 c.index-values-place.is (f.0 e)), f.1)

pub returns : goal.returns
returns c = λ n first l m.
    let v : Environment = frame_environment c.args.frame.now.columns.items in
    let z : c.loop-place.place ≡ 0 = omega arith in
    let e : first + 0 ≡ first = omega arith in
    let P : ℕ → Type 0 = λ k. IsWidth (assigns v (first + k) (map expression (drop k c.args.values.now))) n c.loop-place.all in
    let Q : ℕ → Type 0 = λ j. IsWidth (assigns v j (map expression c.args.values.now)) n c.loop-place.all in
    subst Q e (subst P z (c.loop-place.invariant.1 n first l m))
