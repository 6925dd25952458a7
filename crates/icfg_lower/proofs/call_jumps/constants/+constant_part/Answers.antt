use Rattle.std.proofs.Common.{◌≡◌, sym, ◌∙◌, ap, subst}
use Rattle.std.specs.Prelude.{IfOk}
use Rattle.boogie_tree.specs.declared.span.Span.{Span}
use Rattle.typed_tree.specs.TypedTree.{TypedExpression, Neg, Bin}
use Rattle.typed_tree.specs.TypedView.{expression, kind_view}
use Rattle.icfg_lower.specs.CallJumps.Ties.Reading.{constant_part}
use Rattle.icfg_lower.proofs.ReadSteps.{kept_operation, other_operation}
use Rattle.icfg_lower.proofs.call_jumps.constants.+constant_part.Goals as goal

pub returns-in_ok-constant_part-in-Neg : goal.returns-in_ok-constant_part-in-Neg
returns-in_ok-constant_part-in-Neg t c =
    let s : Span = c.args.expr.now.span in
    let P : TypedExpression → Type 0 = λ d. IfOk c.negative.result (λ e. expression e ≡ constant_part d) in
    let Q : TypedExpression → Type 0 = λ d. IfOk c.negative.result (λ e. expression e ≡ d) in
    subst P (sym (ap (kind_view s) c.in-Neg.is)) (subst Q (ap (Neg s) (c.in_ok-constant_part-in-Neg.ensures ∙ ap constant_part (ap expression c.deref-in-Neg.ensures))) c.negative.ensures)

pub returns-in_ok-second-in-Add : goal.returns-in_ok-second-in-Add
returns-in_ok-second-in-Add t c =
    let s : Span = c.args.expr.now.span in
    let a : TypedExpression = expression c.in-Bin.left.value in
    let b : TypedExpression = expression c.in-Bin.right.value in
    let x : expression c.in_ok-first-in-Add.first ≡ constant_part a = c.in_ok-first-in-Add.ensures ∙ ap constant_part (ap expression c.deref-in-Add.ensures) in
    let y : expression c.in_ok-second-in-Add.second ≡ constant_part b = c.in_ok-second-in-Add.ensures ∙ ap constant_part (ap expression c.deref-in-Add-2.ensures) in
    let P : TypedExpression → Type 0 = λ d. IfOk c.binary.result (λ e. expression e ≡ constant_part d) in
    let Q : TypedExpression → Type 0 = λ d. IfOk c.binary.result (λ e. expression e ≡ d) in
    subst P (sym (ap (kind_view s) c.in-Bin.is)) (subst Q ((λ j. Bin s c.in-Bin.op (x j) (y j)) ∙ sym (kept_operation s c.in-Bin.op (constant_part a) (constant_part b) c.in-Add.is)) c.binary.ensures)

pub returns-in_default-op : goal.returns-in_default-op
returns-in_default-op t c =
    let s : Span = c.args.expr.now.span in
    let P : TypedExpression → Type 0 = λ d. expression c.zero.result ≡ constant_part d in
    subst P (sym (ap (kind_view s) c.in-Bin.is))
    (c.zero.ensures ∙ sym (other_operation s c.in-Bin.op (constant_part (expression c.in-Bin.left.value)) (constant_part (expression c.in-Bin.right.value)) c.in_default-op.not-Add c.in_default-op.not-Sub c.in_default-op.not-Mul))
