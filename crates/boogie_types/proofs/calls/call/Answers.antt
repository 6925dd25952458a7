use Rattle.std.proofs.Common.{ap, sym, ◌∙◌, ◌++◌, ◌∷◌, [], map, Some}
use Rattle.std.proofs.lemmas.Result.{err_from_is_err_and, on_ok_weaker}
use Rattle.boogie_tree.specs.View as view
use Rattle.typed_tree.specs.TypedView as typed
use Rattle.boogie_types.specs.Ties.PlaceViews.{place_outside}
use Rattle.boogie_types.proofs.Seen.{call_typed}
use Rattle.boogie_types.proofs.CallLaws.{call_made, params_numbered}
use Rattle.boogie_types.proofs.FaultLaws.{call_unknown, call_target, call_argument}
use Rattle.boogie_types.proofs.calls.call.Goals as goal

pub returns-in_default-clause-fault : goal.returns-in_default-clause-fault
returns-in_default-clause-fault c = call_unknown _ _ _ _ (sym c.callee_number.ensures ∙ c.in_default.is)

pub returns-in_err-columns-clause-fault : goal.returns-in_err-columns-clause-fault
returns-in_err-columns-clause-fault c =
    let p = err_from_is_err_and c.from_residual.result c.from_residual.ensures.1 in
    rw (p.1, p.2) (call_target _ _ _ _ _ c.in_err-columns.ensures.fault)

pub returns-in_err-values-clause-fault : goal.returns-in_err-values-clause-fault
returns-in_err-values-clause-fault c =
    let p = err_from_is_err_and c.from_residual-in_err-values.result c.from_residual-in_err-values.ensures.1 in
    rw (p.1, p.2) (call_argument _ _ _ _ _ c.in_err-values.ensures.fault)

pub returns-clause-ok : goal.returns-clause-ok
returns-clause-ok c =
    let p = place_outside c.args.place.now in
    let k = c.in-Some.number in
    let number = sym c.callee_number.ensures ∙ c.in-Some.is in
    let params = params_numbered p c.args.callee.now k number ∙ sym c.callee_params-params.ensures in
    let made = call_made p c.args.hidden.now c.args.span c.args.names.now c.args.callee.now (map view.expression c.args.exprs.now) k c.in_ok-columns.columns.items (map typed.expression c.in_ok-values.values.items) c.callee_params-params.result.now
    (map typed.statement c.args.out.now.items) (map typed.statement c.arguments.new.out.items) number params c.in_ok-columns.ensures.ok c.in_ok-values.ensures.ok c.in_ok-values.ensures.aside in
    let last = call_typed c.args.span c.in_ok-columns.columns k c.in_ok-values.values in
    on_ok_weaker c.put.result
    (λ e. made ∙ ap (λ s. Some (map typed.statement c.arguments.new.out.items ++ s ∷ [])) (sym last) ∙ ap (λ ss. Some ss) (sym e)) c.put.ensures.ok
