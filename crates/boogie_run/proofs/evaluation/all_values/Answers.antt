use Rattle.std.proofs.Common.{◌∙◌, FitsSigned, rules}
use Rattle.std.specs.Int.{w128}
use Rattle.std.proofs.lemmas.Int.{to_z-of_z}
use Rattle.std.proofs.lemmas.Result.{err_from_is_err_and}
use Rattle.boogie_run.specs.Ties.Environments.{state}
use Rattle.boogie_run.proofs.ValueSteps.{read_more, fit_more, read_all, fit_all, unfit}
use Rattle.boogie_run.proofs.evaluation.all_values.Goals as goal

pub loop-expr-preserved : goal.loop-expr-preserved
loop-expr-preserved c =
    let f : FitsSigned w128 c.in_ok-value.field-0 = search rules in (
      read_more (state c.args.env) c.args.exprs.now c.loop-expr.expr-index c.expr-item.result c.loop-expr.found.items _ _ c.loop-expr-test.true c.expr-item.is c.in_ok-push.ensures.items (to_z-of_z w128 c.in_ok-value.field-0 f ∙ c.in_ok-value.ensures.0)
          c.loop-expr.invariant.0,
      fit_more (state c.args.env) c.args.exprs.now c.loop-expr.expr-index c.expr-item.result c.loop-expr-test.true c.expr-item.is c.in_ok-value.ensures.2 c.loop-expr.invariant.1,
    )

pub returns-clause-ok : goal.returns-clause-ok
returns-clause-ok c = read_all (state c.args.env) c.args.exprs.now c.loop-expr.expr-index c.loop-expr.found.items c.loop-expr-test.false c.loop-expr.invariant.0

pub returns-clause-fit : goal.returns-clause-fit
returns-clause-fit c = λ _. fit_all (state c.args.env) c.args.exprs.now c.loop-expr.expr-index c.loop-expr-test.false c.loop-expr.invariant.1

pub returns-in_err-value-clause-err : goal.returns-in_err-value-clause-err
returns-in_err-value-clause-err c =
    let p = err_from_is_err_and c.from_residual-in_err-value.result c.from_residual-in_err-value.ensures.1 in
    rw (p.1, p.2) (unfit (state c.args.env) c.args.exprs.now c.loop-expr.expr-index c.expr-item.result _ c.loop-expr-test.true c.expr-item.is c.in_err-value.ensures)
