use Rattle.std.proofs.lemmas.Result.{err_from_is_err_and}
use Rattle.typed_tree.specs.TypedView.{expression}
use Rattle.typed_tree.specs.Scope.{is_constant_column}
use Rattle.typed_tree.proofs.FormAnswers.{neg_refused, left_refused, right_refused, neg_formed, combined_formed}
use Rattle.typed_tree.proofs.forms.+form_of.Goals as goal

pub returns-in_err-form_of-in-Neg : goal.returns-in_err-form_of-in-Neg
returns-in_err-form_of-in-Neg t c =
    let p = err_from_is_err_and c.from_residual-in_err-form_of-in-Neg.result c.from_residual-in_err-form_of-in-Neg.ensures.1 in
    rw (p.1, p.2, c.in-Neg.is) (neg_refused (is_constant_column c.args.globals.now) c.args.old c.args.expr.now.span (expression c.in-Neg.inner.value) _ (rw c.deref-in-Neg.ensures at c.in_err-form_of-in-Neg.ensures))

pub returns-in_ok-form_of-in-Neg : goal.returns-in_ok-form_of-in-Neg
returns-in_ok-form_of-in-Neg t c =
    rw c.in-Neg.is
    (neg_formed (is_constant_column c.args.globals.now) c.args.old c.args.expr.now.span (expression c.in-Neg.inner.value) c.in_ok-form_of-in-Neg.field-0 c.opposite.result (rw c.deref-in-Neg.ensures at c.in_ok-form_of-in-Neg.ensures) c.opposite.ensures.value c.opposite.ensures.too_big)

pub returns-in_err-first-in-Bin : goal.returns-in_err-first-in-Bin
returns-in_err-first-in-Bin t c =
    let p = err_from_is_err_and c.from_residual-in_err-first-in-Bin.result c.from_residual-in_err-first-in-Bin.ensures.1 in
    rw (p.1, p.2, c.in-Bin.is) (left_refused (is_constant_column c.args.globals.now) c.args.old c.args.expr.now.span c.in-Bin.op (expression c.in-Bin.left.value) (expression c.in-Bin.right.value) _ (rw c.deref-in-Bin.ensures at c.in_err-first-in-Bin.ensures))

pub returns-in_err-form_of-in-Bin : goal.returns-in_err-form_of-in-Bin
returns-in_err-form_of-in-Bin t c =
    let p = err_from_is_err_and c.from_residual-in_err-form_of-in-Bin.result c.from_residual-in_err-form_of-in-Bin.ensures.1 in
    rw (p.1, p.2, c.in-Bin.is) (right_refused (is_constant_column c.args.globals.now) c.args.old c.args.expr.now.span c.in-Bin.op (expression c.in-Bin.left.value) (expression c.in-Bin.right.value) _ (rw c.deref-in-Bin-2.ensures at c.in_err-form_of-in-Bin.ensures))

pub returns-in_ok-form_of-in-Bin : goal.returns-in_ok-form_of-in-Bin
returns-in_ok-form_of-in-Bin t c =
    rw c.in-Bin.is
    (combined_formed (is_constant_column c.args.globals.now) c.args.old c.args.expr.now.span c.in-Bin.op (expression c.in-Bin.left.value) (expression c.in-Bin.right.value) c.in_ok-first-in-Bin.first c.in_ok-form_of-in-Bin.field-0 c.combined.result (rw c.deref-in-Bin.ensures at c.in_ok-first-in-Bin.ensures)
    (rw c.deref-in-Bin-2.ensures at c.in_ok-form_of-in-Bin.ensures) c.combined.ensures.value c.combined.ensures.too_big)
