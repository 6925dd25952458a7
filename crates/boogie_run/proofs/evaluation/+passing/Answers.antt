use Rattle.std.specs.Int.{w128}
use Rattle.std.proofs.lemmas.Int.{to_z-of_z}
use Rattle.std.proofs.lemmas.Result.{err_from_is_err_and}
use Rattle.std.proofs.Common.{map, FitsSigned, rules}
use Rattle.typed_tree.specs.TypedView.{expression}
use Rattle.boogie_run.specs.Ties.Environments.{state, read_in}
use Rattle.boogie_run.proofs.ValueSteps.{neg_unfit_passed, left_unfit_passed, right_unfit_passed, bin_value}
use Rattle.boogie_run.proofs.evaluation.+passing.Goals as goal

pub returns-in_err-inner-in-Not : goal.returns-in_err-inner-in-Not
returns-in_err-inner-in-Not t c =
    let p = err_from_is_err_and c.from_residual.result c.from_residual.ensures.1 in
    rw (p.1, p.2, c.in-Not.is) (rw c.deref-in-Not.ensures at c.in_err-inner-in-Not.ensures)

pub returns-in_err-inner-in-Neg : goal.returns-in_err-inner-in-Neg
returns-in_err-inner-in-Neg t c =
    let p = err_from_is_err_and c.from_residual-in_err-inner-in-Neg.result c.from_residual-in_err-inner-in-Neg.ensures.1 in
    rw (p.1, p.2, c.in-Neg.is) (neg_unfit_passed (state c.args.env) (map expression c.args.args.now) (read_in c.args.env c.args.args.now c.args.globals.now) c.args.expr.now.span (expression c.in-Neg.inner.value) _ (rw c.deref-in-Neg.ensures at c.in_err-inner-in-Neg.ensures))

pub returns-in_err-a-in-Bin : goal.returns-in_err-a-in-Bin
returns-in_err-a-in-Bin t c =
    let p = err_from_is_err_and c.from_residual-in_err-a-in-Bin.result c.from_residual-in_err-a-in-Bin.ensures.1 in
    rw (p.1, p.2, c.in-Bin.is) (left_unfit_passed (state c.args.env) (map expression c.args.args.now) (read_in c.args.env c.args.args.now c.args.globals.now) c.args.expr.now.span c.in-Bin.op (expression c.in-Bin.a.value) (expression c.in-Bin.b.value) _ (rw c.deref-in-Bin.ensures at c.in_err-a-in-Bin.ensures))

pub returns-in_err-b-in-Bin : goal.returns-in_err-b-in-Bin
returns-in_err-b-in-Bin t c =
    let p = err_from_is_err_and c.from_residual-in_err-b-in-Bin.result c.from_residual-in_err-b-in-Bin.ensures.1 in
    rw (p.1, p.2, c.in-Bin.is) (right_unfit_passed (state c.args.env) (map expression c.args.args.now) (read_in c.args.env c.args.args.now c.args.globals.now) c.args.expr.now.span c.in-Bin.op (expression c.in-Bin.a.value) (expression c.in-Bin.b.value) _ (rw c.deref-in-Bin-2.ensures at c.in_err-b-in-Bin.ensures))

pub operation-requires-clause-a_fits : goal.operation-requires-clause-a_fits
operation-requires-clause-a_fits t c =
    let f : FitsSigned w128 c.in_ok-a-in-Bin.a = search rules in
    simp to_z-of_z (rw (c.in_ok-a-in-Bin.ensures.0) c.in_ok-a-in-Bin.ensures.1)

pub operation-requires-clause-b_fits : goal.operation-requires-clause-b_fits
operation-requires-clause-b_fits t c =
    let f : FitsSigned w128 c.in_ok-b-in-Bin.b = search rules in
    simp to_z-of_z (rw (c.in_ok-b-in-Bin.ensures.0) c.in_ok-b-in-Bin.ensures.1)

pub returns-in_ok-b-in-Bin : goal.returns-in_ok-b-in-Bin
returns-in_ok-b-in-Bin t c =
    let f : FitsSigned w128 c.in_ok-a-in-Bin.a = search rules in
    let g : FitsSigned w128 c.in_ok-b-in-Bin.b = search rules in
    rw c.in-Bin.is
    (bin_value c.in-Bin.op _ _ _ _ _ _ c.operation.result (rw c.deref-in-Bin.ensures at c.in_ok-a-in-Bin.ensures) (rw c.deref-in-Bin-2.ensures at c.in_ok-b-in-Bin.ensures) (simp to_z-of_z at c.operation.ensures))
