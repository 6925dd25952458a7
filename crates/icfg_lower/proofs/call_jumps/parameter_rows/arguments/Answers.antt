use Rattle.std.proofs.Common.{◌<◌, List, map, length, refl, sym, subst, arith}
use Rattle.lin_rows.specs.Rows.{LinearRow}
use Rattle.typed_tree.specs.declared.types.TExpr.{TExpr}
use Rattle.typed_tree.specs.TypedView.{expression}
use Rattle.cond_jumps.specs.declared.fault.JumpFault.TheVariants.{TooBig}
use Rattle.cond_jumps.specs.Conjs.{conjunction}
use Rattle.cond_jumps.specs.Environments.{Environment}
use Rattle.cond_jumps.specs.Frames.{frame_environment}
use Rattle.cond_jumps.proofs.EvenLemmas.{frame_even}
use Rattle.icfg_lower.specs.CallJumps.Ties.ParameterView.{AreSoFar}
use Rattle.icfg_lower.proofs.CallJumps.ConjoinedLemmas.{handed}
use Rattle.icfg_lower.proofs.CallJumps.ParameterLemmas.{get_narrow, none_yet, one_more_at, next_unfit_at, all_there, all_fit_there, at_place, past_end, length-mapped}
use Rattle.icfg_lower.proofs.call_jumps.parameter_rows.arguments.Goals as goal

pub loop-place-init : goal.loop-place-init
loop-place-init c =
    let v : Environment = frame_environment c.args.frame.now.columns.items in
    let P : List LinearRow → Type 0 = λ rs. AreSoFar v c.args.first c.args.base (map expression c.args.args.now) 0 (record { rows = rs; helpers = 0 }) in
    subst P (sym c.new.ensures.items) (none_yet v c.args.first c.args.base (map expression c.args.args.now))

pub loop-place-preserved : goal.loop-place-preserved
loop-place-preserved c =
    let v : Environment = frame_environment c.args.frame.now.columns.items in
    let x : TExpr = c.index-args-place.result in
    let l : c.loop-place.place < length c.args.args.now = c.loop-place-test.true in
    one_more_at v c.args.first c.args.base c.in_ok-number.number c.in_ok-next.next (map expression c.args.args.now) c.loop-place.place (conjunction c.loop-place.all) (conjunction c.in_ok-one.one)
    (conjunction c.in_ok-all.all) (expression x) (at_place c.loop-place.place c.args.args.now x l c.index-args-place.is) c.loop-place.invariant
    c.in_ok-number.ensures c.in_ok-next.ensures c.in_ok-one.ensures.list (c.in_ok-one.ensures.fits refl) c.in_ok-all.ensures

pub returns-clause-list : goal.returns-clause-list
returns-clause-list c =
    let v : Environment = frame_environment c.args.frame.now.columns.items in
    all_there v c.args.first c.args.base (map expression c.args.args.now) c.loop-place.place (conjunction c.loop-place.all)
    (past_end c.loop-place.place c.args.args.now c.loop-place-test.false) c.loop-place.invariant

pub returns-clause-narrow : goal.returns-clause-narrow
returns-clause-narrow c t = get_narrow (frame_environment c.args.frame.now.columns.items) c.args.first (map expression c.args.args.now) c.args.base

pub returns-clause-fits : goal.returns-clause-fits
returns-clause-fits c t =
    let v : Environment = frame_environment c.args.frame.now.columns.items in
    let m = length-mapped c.args.args.now in
    let r = c.requires.parameters in
    all_fit_there c.args.base v (frame_even c.args.base c.args.frame.now.columns.items c.requires.frame) c.args.first (map expression c.args.args.now) c.loop-place.place (conjunction c.loop-place.all)
    (omega (arith, m, r)) (past_end c.loop-place.place c.args.args.now c.loop-place-test.false) c.loop-place.invariant

pub returns-in_err-one-clause-too_big : goal.returns-in_err-one-clause-too_big
returns-in_err-one-clause-too_big c t =
    let v : Environment = frame_environment c.args.frame.now.columns.items in
    let x : TExpr = c.index-args-place.result in
    let l : c.loop-place.place < length c.args.args.now = c.loop-place-test.true in (
      get_narrow v c.args.first (map expression c.args.args.now) c.args.base,
      next_unfit_at v c.args.first c.args.base c.in_ok-number.number c.in_ok-next.next (map expression c.args.args.now) c.loop-place.place (conjunction c.loop-place.all) (expression x)
          (at_place c.loop-place.place c.args.args.now x l c.index-args-place.is) c.loop-place.invariant c.in_ok-number.ensures c.in_ok-next.ensures
          (c.argument.ensures.too_big (handed c.argument.result c.from_residual-in_err-one.result c.in_err-one.field-0.0 TooBig c.in_err-one.was c.from_residual-in_err-one.ensures.1 t)),
    )
