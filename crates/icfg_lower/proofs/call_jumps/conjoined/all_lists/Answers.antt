use Rattle.std.proofs.Common.{◌≡◌, ℕ, ◌-◌, ◌≤◌, true, false, List, ◌∷◌, map, length, drop, refl, sym, ◌∙◌, subst, arith}
use Rattle.typed_tree.specs.declared.types.TExpr.{TExpr}
use Rattle.typed_tree.specs.TypedTree.{TypedExpression}
use Rattle.typed_tree.specs.TypedView.{expression}
use Rattle.cond_jumps.specs.declared.fault.JumpFault.TheVariants.{TooWide, TooBig}
use Rattle.cond_jumps.specs.Conjunctions.{listed_plan, is_wide, all_fit}
use Rattle.cond_jumps.specs.Environments.{Environment}
use Rattle.cond_jumps.specs.Frames.{frame_environment}
use Rattle.cond_jumps.specs.ListView.{IsPlanList}
use Rattle.cond_jumps.specs.Paths.{paths}
use Rattle.cond_jumps.proofs.EvenLemmas.{frame_even}
use Rattle.lowered_graph.specs.LoweredSteps.Edges.{all_hold}
use Rattle.icfg_lower.proofs.CallJumps.ConjoinedLemmas.{conjoined_even, wide_part, wide_first, unfit_part, unfit_first, drop_map, from_place, handed}
use Rattle.icfg_lower.proofs.call_jumps.conjoined.all_lists.Goals as goal

pub returns-in_err-one-clause-too_wide : goal.returns-in_err-one-clause-too_wide
returns-in_err-one-clause-too_wide c t =
    let n : ℕ = c.args.base in
    let v : Environment = frame_environment c.args.frame.now.columns.items in
    let x : TExpr = c.index-conds-place.result in
    let place : ℕ = c.loop-place.place in
    let P : List TypedExpression → Type 0 = λ es. is_wide (all_hold v es) n ≡ true in
    let d : drop (place - 1) (map expression c.args.conds.now) ≡ expression x ∷ map expression (drop place c.args.conds.now) =
    from_place place c.args.conds.now x c.loop-place-test.true c.loop-place.invariant.0 c.index-conds-place.is in
    let w : is_wide (paths v false (expression x) true) n ≡ true =
    (λ j. is_wide (paths v false (expression x) true) (c.requires j))
    ∙ c.paths.ensures.too_wide (handed c.paths.result c.from_residual-in_err-one.result c.in_err-one.field-0.0 TooWide c.in_err-one.was c.from_residual-in_err-one.ensures.1 t) in
    wide_part n v (place - 1) (map expression c.args.conds.now) (subst P (sym d) (wide_first n v (expression x) (map expression (drop place c.args.conds.now)) w))

pub returns-in_err-one-clause-too_big : goal.returns-in_err-one-clause-too_big
returns-in_err-one-clause-too_big c t =
    let n : ℕ = c.args.base in
    let v : Environment = frame_environment c.args.frame.now.columns.items in
    let x : TExpr = c.index-conds-place.result in
    let place : ℕ = c.loop-place.place in
    let P : List TypedExpression → Type 0 = λ es. all_fit (all_hold v es) n ≡ false in
    let d : drop (place - 1) (map expression c.args.conds.now) ≡ expression x ∷ map expression (drop place c.args.conds.now) =
    from_place place c.args.conds.now x c.loop-place-test.true c.loop-place.invariant.0 c.index-conds-place.is in
    let w : all_fit (paths v false (expression x) true) n ≡ false =
    (λ j. all_fit (paths v false (expression x) true) (c.requires j))
    ∙ (c.paths.ensures.too_big (handed c.paths.result c.from_residual-in_err-one.result c.in_err-one.field-0.0 TooBig c.in_err-one.was c.from_residual-in_err-one.ensures.1 t)).1 in
    unfit_part n v (place - 1) (map expression c.args.conds.now) (subst P (sym d) (unfit_first n v (expression x) (map expression (drop place c.args.conds.now)) w))

pub loop-place-preserved : goal.loop-place-preserved
loop-place-preserved c =
    let n : ℕ = c.args.base in
    let v : Environment = frame_environment c.args.frame.now.columns.items in
    let x : TExpr = c.index-conds-place.result in
    let place : ℕ = c.loop-place.place in
    let es : List TypedExpression = map expression (drop place c.args.conds.now) in
    let P : List TypedExpression → Type 0 = λ es. IsPlanList (all_hold v es) n c.in_ok-all-2.all in
    let d : drop (place - 1) (map expression c.args.conds.now) ≡ expression x ∷ map expression (drop place c.args.conds.now) =
    from_place place c.args.conds.now x c.loop-place-test.true c.loop-place.invariant.0 c.index-conds-place.is in
    let l : place ≤ length c.args.conds.now = c.loop-place.invariant.0 in
    let m : length c.args.frame.now.columns.items ≤ n = (let r : n ≡ length c.args.frame.now.columns.items = c.requires in omega (arith, r)) in
    let one : IsPlanList (paths v false (expression x) true) n c.in_ok-one.one =
    record {
      seen = c.in_ok-one.ensures.list ∙ (λ j. listed_plan (paths v false (expression x) true) (sym c.requires j));
      fit = (λ j. all_fit (paths v false (expression x) true) (c.requires j)) ∙ c.in_ok-one.ensures.fits refl;
    }
    in (
      omega arith,
      subst P (sym d ∙ drop_map (place - 1) c.args.conds.now)
          (c.in_ok-all-2.ensures (paths v false (expression x) true) (all_hold v es) (conjoined_even n v (frame_even n c.args.frame.now.columns.items m) es) one c.loop-place.invariant.1),
    )
