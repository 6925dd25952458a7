use Rattle.std.proofs.Common.{rules, ◌≡◌, ◌+◌, true, false, Option, refl, sym, ap, subst, ◌∙◌, FitsSigned}
use Rattle.std.specs.Int.{w128}
use Rattle.std.proofs.lemmas.Int.{to_z-of_z}
use Rattle.boogie_tree.specs.declared.tree.Column.{Column}
use Rattle.typed_tree.specs.TypedTree.{TypedExpression, Bin}
use Rattle.typed_tree.specs.TypedView.{expression, kind_view}
use Rattle.typed_tree.specs.AffineForm.{divisor_of}
use Rattle.cond_jumps.specs.declared.sums.Divisor.{Divisor}
use Rattle.cond_jumps.specs.declared.sums.Sum.{Sum}
use Rattle.cond_jumps.specs.CodeView.{IsDivisorFound}
use Rattle.cond_jumps.specs.Forms.{linear_negated}
use Rattle.cond_jumps.specs.Frames.{frame_environment, column_place_in}
use Rattle.cond_jumps.specs.Environments.{Environment}
use Rattle.cond_jumps.specs.Paths.{linear}
use Rattle.cond_jumps.specs.Ties.SumView.{IsSumOf, IsBoxedAnswer, rows_fit}
use Rattle.cond_jumps.proofs.AnswerLemmas.{handed_on, combination_answer, second_answer, quotient_answer}
use Rattle.cond_jumps.proofs.SumFaults.{column_sum_is, opposite_is, first_answer, operand_answer, no_sum_answer, no_quotient_answer}
use Rattle.cond_jumps.proofs.linear.+linear.Goals as goal

pub boxed_linear-returns-in_err-b-in-Bin : goal.boxed_linear-returns-in_err-b-in-Bin
boxed_linear-returns-in_err-b-in-Bin t c =
    let v : Environment = frame_environment c.args.frame.now.columns.items in
    let h = ap (λ (x : Sum). c.args.next + x.helpers) c.deref-then-is_combination-3.ensures in
    let P : TypedExpression → Type 0 = λ e. IsBoxedAnswer (linear v c.args.old e c.args.next) c.from_residual-in_err-b-in-Bin.result in
    subst P (sym (ap (kind_view c.args.expr.now.span) c.in-Bin.is))
    (second_answer v c.args.old c.args.expr.now.span c.in-Bin.op (expression c.in-Bin.left.value) (expression c.in-Bin.right.value)
    (expression c.deref-then-is_combination.result.now) (expression c.deref-then-is_combination-2.result.now) c.args.next c.in_ok-later-in-Bin.field-0
    c.in_ok-a-in-Bin.a.value c.in_err-b-in-Bin.field-0.0 c.from_residual-in_err-b-in-Bin.result (ap expression c.deref-then-is_combination.ensures)
    (ap expression c.deref-then-is_combination-2.ensures) (sym c.is_combination.ensures ∙ c.if-is_combination.true) c.in_ok-a-in-Bin.ensures (c.in_ok-later-in-Bin.ensures ∙ h)
    c.in_err-b-in-Bin.ensures c.from_residual-in_err-b-in-Bin.ensures.1)

pub boxed_linear-returns-then-is_combination : goal.boxed_linear-returns-then-is_combination
boxed_linear-returns-then-is_combination t c =
    let v : Environment = frame_environment c.args.frame.now.columns.items in
    let h = ap (λ (x : Sum). c.args.next + x.helpers) c.deref-then-is_combination-3.ensures in
    let P : TypedExpression → Type 0 = λ e. IsSumOf (linear v c.args.old e c.args.next) c.in_ok-combined-in-Bin.field-0.value in
    subst P (sym (ap (kind_view c.args.expr.now.span) c.in-Bin.is))
    (combination_answer v c.args.old c.args.expr.now.span c.in-Bin.op (expression c.in-Bin.left.value) (expression c.in-Bin.right.value)
    (expression c.deref-then-is_combination.result.now) (expression c.deref-then-is_combination-2.result.now)
    (expression c.deref-then-is_combination-4.result.now) (expression c.deref-then-is_combination-5.result.now) c.args.next c.in_ok-later-in-Bin.field-0
    c.in_ok-a-in-Bin.a.value c.in_ok-b-in-Bin.b.value c.in_ok-combined-in-Bin.field-0.value
    (ap expression c.deref-then-is_combination.ensures) (ap expression c.deref-then-is_combination-2.ensures)
    (ap expression c.deref-then-is_combination-4.ensures) (ap expression c.deref-then-is_combination-5.ensures)
    (sym c.is_combination.ensures ∙ c.if-is_combination.true) c.in_ok-a-in-Bin.ensures (c.in_ok-later-in-Bin.ensures ∙ h)
    c.in_ok-b-in-Bin.ensures c.in_ok-combined-in-Bin.ensures)

pub boxed_linear-returns-in-Lit : goal.boxed_linear-returns-in-Lit
boxed_linear-returns-in-Lit t c =
    let v : Environment = frame_environment c.args.frame.now.columns.items in
    let P : TypedExpression → Type 0 = λ e. IsBoxedAnswer (linear v c.args.old e c.args.next) c.number.result in
    let f : FitsSigned w128 c.in-Lit.n = search rules in
    subst P (sym (ap (kind_view c.args.expr.now.span) c.in-Lit.is)) (simp to_z-of_z at c.number.ensures)

pub boxed_linear-returns-else-not-is_division : goal.boxed_linear-returns-else-not-is_division
boxed_linear-returns-else-not-is_division t c =
    let v : Environment = frame_environment c.args.frame.now.columns.items in
    let P : TypedExpression → Type 0 = λ e. IsBoxedAnswer (linear v c.args.old e c.args.next) c.division.result in
    let Q : TypedExpression → TypedExpression → Type 0 = λ e f. P (Bin c.args.expr.now.span c.in-Bin.op e f) in
    let d : TypedExpression = expression c.deref-in-Bin-2.result.now in
    subst P (sym (ap (kind_view c.args.expr.now.span) c.in-Bin.is))
    (subst (Q (expression c.in-Bin.left.value)) (ap expression c.deref-in-Bin-2.ensures)
    (subst (λ (e : TypedExpression). Q e d) (ap expression c.deref-in-Bin.ensures) (c.division.ensures c.args.expr.now.span)))

pub boxed_linear-returns-in-Truth : goal.boxed_linear-returns-in-Truth
boxed_linear-returns-in-Truth t c =
    let v : Environment = frame_environment c.args.frame.now.columns.items in
    let P : TypedExpression → Type 0 = λ e. IsBoxedAnswer (linear v c.args.old e c.args.next) c.number-in-Truth.result in
    subst P (sym (ap (kind_view c.args.expr.now.span) c.in-Truth.is)) c.number-in-Truth.ensures

pub boxed_linear-returns-in-Not : goal.boxed_linear-returns-in-Not
boxed_linear-returns-in-Not t c =
    let v : Environment = frame_environment c.args.frame.now.columns.items in
    let P : TypedExpression → Type 0 = λ e. IsBoxedAnswer (linear v c.args.old e c.args.next) c.number-in-Not.result in
    subst P (sym (ap (kind_view c.args.expr.now.span) c.in-Not.is)) c.number-in-Not.ensures

pub boxed_linear-returns-in-Old : goal.boxed_linear-returns-in-Old
boxed_linear-returns-in-Old t c =
    let v : Environment = frame_environment c.args.frame.now.columns.items in
    let P : TypedExpression → Type 0 = λ e. IsBoxedAnswer (linear v c.args.old e c.args.next) c.boxed_linear.result in
    let Q : TypedExpression → Type 0 = λ e. IsBoxedAnswer (linear v true e c.args.next) c.boxed_linear.result in
    subst P (sym (ap (kind_view c.args.expr.now.span) c.in-Old.is)) (subst Q (ap expression c.deref.ensures) c.boxed_linear.ensures)

pub boxed_linear-returns-in_ok-column_sum-in-Var : goal.boxed_linear-returns-in_ok-column_sum-in-Var
boxed_linear-returns-in_ok-column_sum-in-Var t c =
    let v : Environment = frame_environment c.args.frame.now.columns.items in
    let P : TypedExpression → Type 0 = λ e. IsSumOf (linear v c.args.old e c.args.next) c.in_ok-column_sum-in-Var.field-0.value in
    let Q : Column → Type 0 = λ k. IsSumOf (v.sum k c.args.next) c.in_ok-column_sum-in-Var.field-0.value in
    subst P (sym (ap (kind_view c.args.expr.now.span) c.in-Var.is))
    (subst Q c.read_at.ensures (column_sum_is (column_place_in c.args.frame.now.columns.items c.read_at.result) c.args.next c.in_ok-column_sum-in-Var.field-0.value c.in_ok-column_sum-in-Var.ensures))

pub boxed_linear-returns-in_ok-negated-in-Neg : goal.boxed_linear-returns-in_ok-negated-in-Neg
boxed_linear-returns-in_ok-negated-in-Neg t c =
    let v : Environment = frame_environment c.args.frame.now.columns.items in
    let P : TypedExpression → Type 0 = λ e. IsSumOf (linear v c.args.old e c.args.next) c.in_ok-negated-in-Neg.field-0.value in
    let Q : TypedExpression → Type 0 = λ e. IsSumOf (linear v c.args.old e c.args.next) c.in_ok-sum-in-Neg.sum.value in
    subst P (sym (ap (kind_view c.args.expr.now.span) c.in-Neg.is))
    (opposite_is (linear v c.args.old (expression c.in-Neg.inner.value)) c.args.next c.in_ok-sum-in-Neg.sum.value c.in_ok-negated-in-Neg.field-0.value
    (subst Q (ap expression c.deref-in-Neg.ensures) c.in_ok-sum-in-Neg.ensures) c.in_ok-negated-in-Neg.ensures)

pub boxed_linear-returns-in_err-sum-in-Neg : goal.boxed_linear-returns-in_err-sum-in-Neg
boxed_linear-returns-in_err-sum-in-Neg t c =
    let v : Environment = frame_environment c.args.frame.now.columns.items in
    let P : TypedExpression → Type 0 = λ e. IsBoxedAnswer (linear v c.args.old e c.args.next) c.from_residual-in_err-sum-in-Neg.result in
    let Q : TypedExpression → Type 0 = λ e. rows_fit (linear v c.args.old e c.args.next).rows ≡ false in
    subst P (sym (ap (kind_view c.args.expr.now.span) c.in-Neg.is))
    (handed_on (linear_negated (linear v c.args.old (expression c.in-Neg.inner.value)) c.args.next) c.from_residual-in_err-sum-in-Neg.result c.in_err-sum-in-Neg.field-0.0
    c.from_residual-in_err-sum-in-Neg.ensures.1 (λ u. subst Q (ap expression c.deref-in-Neg.ensures) (c.in_err-sum-in-Neg.ensures u)))

pub boxed_linear-returns-in_err-a-in-Bin : goal.boxed_linear-returns-in_err-a-in-Bin
boxed_linear-returns-in_err-a-in-Bin t c =
    let v : Environment = frame_environment c.args.frame.now.columns.items in
    let P : TypedExpression → Type 0 = λ e. IsBoxedAnswer (linear v c.args.old e c.args.next) c.from_residual-in_err-a-in-Bin.result in
    subst P (sym (ap (kind_view c.args.expr.now.span) c.in-Bin.is))
    (first_answer v c.args.old c.args.expr.now.span c.in-Bin.op (expression c.in-Bin.left.value) (expression c.in-Bin.right.value) (expression c.deref-then-is_combination.result.now) c.args.next
    c.in_err-a-in-Bin.field-0.0 c.from_residual-in_err-a-in-Bin.result (ap expression c.deref-then-is_combination.ensures) (sym c.is_combination.ensures ∙ c.if-is_combination.true)
    c.in_err-a-in-Bin.ensures c.from_residual-in_err-a-in-Bin.ensures.1)

pub boxed_linear-returns-then-not-is_division : goal.boxed_linear-returns-then-not-is_division
boxed_linear-returns-then-not-is_division t c =
    let v : Environment = frame_environment c.args.frame.now.columns.items in
    let P : TypedExpression → Type 0 = λ e. IsBoxedAnswer (linear v c.args.old e c.args.next) c.number-then-not-is_division.result in
    subst P (sym (ap (kind_view c.args.expr.now.span) c.in-Bin.is))
    (no_sum_answer v c.args.old c.args.expr.now.span c.in-Bin.op (expression c.in-Bin.left.value) (expression c.in-Bin.right.value) c.args.next c.number-then-not-is_division.result
    (sym c.is_combination.ensures ∙ c.if-is_combination.false) (sym c.is_division.ensures ∙ c.if-not-is_division.true) c.number-then-not-is_division.ensures)

pub division-returns-in-None : goal.division-returns-in-None
division-returns-in-None t c = λ at.
    let f : TypedExpression = expression c.args.right.now in
    let D : Option Divisor → Type 0 = λ o. IsDivisorFound (divisor_of f) o in
    no_quotient_answer (frame_environment c.args.frame.now.columns.items) c.args.old at c.args.op (expression c.args.left.now) f f c.args.next c.number.result refl c.requires
    (subst D c.in-None.is c.in_ok-divisor.ensures) c.number.ensures

pub division-returns-in_err-x-in-Some : goal.division-returns-in_err-x-in-Some
division-returns-in_err-x-in-Some t c = λ at.
    let e : TypedExpression = expression c.args.left.now in
    let f : TypedExpression = expression c.args.right.now in
    let D : Option Divisor → Type 0 = λ o. IsDivisorFound (divisor_of f) o in
    operand_answer (frame_environment c.args.frame.now.columns.items) c.args.old at c.args.op e f f e c.args.next c.in-Some.k c.in_err-x-in-Some.field-0.0 c.from_residual-in_err-x-in-Some.result
    refl refl c.requires (subst D c.in-Some.is c.in_ok-divisor.ensures) c.in_err-x-in-Some.ensures c.from_residual-in_err-x-in-Some.ensures.1

pub division-returns-in_ok-x-in-Some : goal.division-returns-in_ok-x-in-Some
division-returns-in_ok-x-in-Some t c = λ at.
    let e : TypedExpression = expression c.args.left.now in
    let f : TypedExpression = expression c.args.right.now in
    let D : Option Divisor → Type 0 = λ o. IsDivisorFound (divisor_of f) o in
    quotient_answer (frame_environment c.args.frame.now.columns.items) c.args.old at c.args.op e f f e c.args.next c.in_ok-x-in-Some.x.value c.in-Some.k c.part_of.result refl refl c.requires
    (subst D c.in-Some.is c.in_ok-divisor.ensures) c.in_ok-x-in-Some.ensures c.part_of.ensures
