use Rattle.std.proofs.Common.{◌≡◌, ◌+◌, ap, sym, ◌∙◌, [], map, drop, length, arith}
use Rattle.std.proofs.lemmas.List.{drop_all, map-append}
use Rattle.std.proofs.lemmas.Result.{err_from_is_err_and}
use Rattle.boogie_tree.specs.View as view
use Rattle.typed_tree.specs.TypedView as typed
use Rattle.boogie_types.specs.Ties.PlaceViews.{place_outside}
use Rattle.boogie_types.specs.Naming.{hidden_arguments, named_arguments, put_aside}
use Rattle.boogie_types.specs.Ties.Making.{made}
use Rattle.boogie_types.proofs.EachLaws.{made_all}
use Rattle.boogie_types.proofs.FaultLaws.{fault_of_member}
use Rattle.boogie_types.proofs.CallLaws.{values_go, aside_go, count_go, no_arguments}
use Rattle.boogie_types.proofs.calls.arguments.Goals as goal

pub returns-in_err-value-clause-fault : goal.returns-in_err-value-clause-fault
returns-in_err-value-clause-fault c =
    let p = err_from_is_err_and c.from_residual.result c.from_residual.ensures.1 in
    rw (p.1, p.2) (fault_of_member _ _ _ _ _ c.loop-number-test.true c.index-exprs-number.is c.in_err-value.ensures.fault)

pub loop-number-preserved : goal.loop-number-preserved
loop-number-preserved c =
    let p = place_outside c.args.place.now in
    let a = c.in_ok-value.ensures in
    record {
      values = ap (λ vs. made vs (named_arguments p c.argument.new.hidden (drop (c.loop-number.number + 1) c.args.params.now) (map view.expression (drop (c.loop-number.number + 1) c.args.exprs.now))))
          (ap (map typed.expression) c.in_ok-push.ensures.items ∙ map-append typed.expression c.loop-number.values.items _)
          ∙ values_go p c.args.span c.args.params.now c.args.exprs.now c.loop-number.number c.index-exprs-number.result c.parameter_at-parameter.result _ _ c.loop-number-test.true c.index-exprs-number.is c.parameter_at-parameter.ensures a.hidden
          (map typed.expression c.loop-number.values.items) _ _ a.ok c.loop-number.invariant.values;
      aside = aside_go p c.args.span c.args.params.now c.args.exprs.now c.loop-number.number c.index-exprs-number.result c.parameter_at-parameter.result _ _ c.loop-number-test.true c.index-exprs-number.is c.parameter_at-parameter.ensures a.hidden
          _ _ _ a.aside c.loop-number.invariant.aside;
      count = count_go p c.args.span c.args.params.now c.args.exprs.now c.loop-number.number c.index-exprs-number.result c.parameter_at-parameter.result _ _ c.loop-number-test.true c.index-exprs-number.is c.parameter_at-parameter.ensures a.hidden
          _ c.loop-number.invariant.count;
    }

pub returns-clause-aside : goal.returns-clause-aside
returns-clause-aside c =
    let p = place_outside c.args.place.now in
    let e : drop c.loop-number.number c.args.exprs.now ≡ [] = drop_all c.loop-number.number c.args.exprs.now c.loop-number-test.false in
    sym c.loop-number.invariant.aside
    ∙ ap (λ es. made (map typed.statement c.loop-number.out.items) (put_aside p c.loop-number.hidden c.args.span (hidden_arguments (drop c.loop-number.number c.args.params.now) (map view.expression es)))) e
    ∙ ap (λ es. made (map typed.statement c.loop-number.out.items) (put_aside p c.loop-number.hidden c.args.span es)) (no_arguments (drop c.loop-number.number c.args.params.now))
    ∙ made_all (map typed.statement c.loop-number.out.items)

pub returns-clause-hidden : goal.returns-clause-hidden
returns-clause-hidden c =
    let e : drop c.loop-number.number c.args.exprs.now ≡ [] = drop_all c.loop-number.number c.args.exprs.now c.loop-number-test.false in
    let a = ap (λ es. length (hidden_arguments (drop c.loop-number.number c.args.params.now) (map view.expression es))) e in
    let b = ap length (no_arguments (drop c.loop-number.number c.args.params.now)) in
    let w = c.loop-number.invariant.count in omega arith
