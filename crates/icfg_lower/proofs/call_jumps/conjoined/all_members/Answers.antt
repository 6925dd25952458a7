use Rattle.std.proofs.Common.{◌≡◌, ℕ, ◌-◌, ◌≤◌, true, List, ◌∷◌, map, length, drop, refl, sym, ◌∙◌, subst, arith}
use Rattle.typed_tree.specs.declared.types.TExpr.{TExpr}
use Rattle.typed_tree.specs.TypedTree.{TypedExpression}
use Rattle.typed_tree.specs.TypedView.{expression}
use Rattle.cond_jumps.specs.declared.fault.JumpFault.TheVariants.{TooWide}
use Rattle.cond_jumps.specs.Conjunctions.{is_wide}
use Rattle.cond_jumps.specs.Environments.{Environment}
use Rattle.cond_jumps.specs.Frames.{frame_environment}
use Rattle.cond_jumps.proofs.EvenLemmas.{frame_even}
use Rattle.lowered_graph.specs.LoweredSteps.Edges.{all_hold}
use Rattle.icfg_lower.specs.CallJumps.Ties.Conjoined.{HasMembers}
use Rattle.icfg_lower.proofs.CallJumps.ConjoinedLemmas.{more_members, too_many, wide_part, wide_first, drop_map, from_place, handed}
use Rattle.icfg_lower.proofs.call_jumps.conjoined.all_members.Goals as goal

pub returns-in_err-one-clause-too_wide : goal.returns-in_err-one-clause-too_wide
returns-in_err-one-clause-too_wide c t =
    let n : ℕ = length c.args.frame.now.columns.items in
    let v : Environment = frame_environment c.args.frame.now.columns.items in
    let x : TExpr = c.index-conds-place.result in
    let place : ℕ = c.loop-place.place in
    let P : List TypedExpression → Type 0 = λ es. is_wide (all_hold v es) n ≡ true in
    let d : drop (place - 1) (map expression c.args.conds.now) ≡ expression x ∷ map expression (drop place c.args.conds.now) =
    from_place place c.args.conds.now x c.loop-place-test.true c.loop-place.invariant.0 c.index-conds-place.is in
    wide_part n v (place - 1) (map expression c.args.conds.now)
    (subst P (sym d) (wide_first n v (expression x) (map expression (drop place c.args.conds.now))
    (c.members.ensures.too_wide (handed c.members.result c.from_residual.result c.in_err-one.field-0.0 TooWide c.in_err-one.was c.from_residual.ensures.1 t))))

pub returns-in_err-all-clause-too_wide : goal.returns-in_err-all-clause-too_wide
returns-in_err-all-clause-too_wide c t =
    let n : ℕ = length c.args.frame.now.columns.items in
    let v : Environment = frame_environment c.args.frame.now.columns.items in
    let x : TExpr = c.index-conds-place.result in
    let place : ℕ = c.loop-place.place in
    let P : List TypedExpression → Type 0 = λ es. is_wide (all_hold v es) n ≡ true in
    let d : drop (place - 1) (map expression c.args.conds.now) ≡ expression x ∷ map expression (drop place c.args.conds.now) =
    from_place place c.args.conds.now x c.loop-place-test.true c.loop-place.invariant.0 c.index-conds-place.is in
    wide_part n v (place - 1) (map expression c.args.conds.now)
    (subst P (sym d) (too_many n v (frame_even n c.args.frame.now.columns.items (omega arith)) (expression x) (map expression (drop place c.args.conds.now)) c.in_ok-one.one c.loop-place.all
    c.in_ok-one.ensures.count c.loop-place.invariant.1
    (c.both_members.ensures.too_wide (handed c.both_members.result c.from_residual-in_err-all.result c.in_err-all.field-0.0 TooWide c.in_err-all.was c.from_residual-in_err-all.ensures.1 t))))

pub loop-place-preserved : goal.loop-place-preserved
loop-place-preserved c =
    let n : ℕ = length c.args.frame.now.columns.items in
    let v : Environment = frame_environment c.args.frame.now.columns.items in
    let x : TExpr = c.index-conds-place.result in
    let place : ℕ = c.loop-place.place in
    let P : List TypedExpression → Type 0 = λ es. HasMembers (all_hold v es) n c.in_ok-all.all in
    let d : drop (place - 1) (map expression c.args.conds.now) ≡ expression x ∷ map expression (drop place c.args.conds.now) =
    from_place place c.args.conds.now x c.loop-place-test.true c.loop-place.invariant.0 c.index-conds-place.is in
    let l : place ≤ length c.args.conds.now = c.loop-place.invariant.0 in (
      omega arith,
      subst P (sym d ∙ drop_map (place - 1) c.args.conds.now)
          (more_members n v (frame_even n c.args.frame.now.columns.items (omega arith)) (expression x) (map expression (drop place c.args.conds.now)) c.in_ok-one.one c.loop-place.all c.in_ok-all.all
          (c.in_ok-one.ensures.narrow refl) c.in_ok-one.ensures.count c.loop-place.invariant.1 c.in_ok-all.ensures.count),
    )
