use Rattle.std.proofs.lemmas.Result.{err_from_is_err_and}
use Rattle.boogie_run.specs.Ties.Environments.{state}
use Rattle.boogie_run.proofs.ValueSteps.{fit_more, fit_all, unfit}
use Rattle.boogie_run.proofs.evaluation.all_fit.Goals as goal

pub loop-expr-preserved : goal.loop-expr-preserved
loop-expr-preserved c = fit_more (state c.args.env) c.args.exprs.now c.loop-expr.expr-index c.expr-item.result c.loop-expr-test.true c.expr-item.is c.in_ok-value.ensures.2 c.loop-expr.invariant

pub returns-clause-fit : goal.returns-clause-fit
returns-clause-fit c = λ _. fit_all (state c.args.env) c.args.exprs.now c.loop-expr.expr-index c.loop-expr-test.false c.loop-expr.invariant

pub returns-in_err-value-clause-err : goal.returns-in_err-value-clause-err
returns-in_err-value-clause-err c =
    let p = err_from_is_err_and c.from_residual.result c.from_residual.ensures.1 in
    rw (p.1, p.2) (unfit (state c.args.env) c.args.exprs.now c.loop-expr.expr-index c.expr-item.result _ c.loop-expr-test.true c.expr-item.is c.in_err-value.ensures)
