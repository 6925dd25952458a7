use Rattle.std.proofs.Common.{rules, ℤ, neg_ℤ, ◌≡◌, sym, ap, subst, ◌∙◌, FitsSigned}
use Rattle.std.specs.Int.{w128}
use Rattle.std.specs.Prelude.{IfOk}
use Rattle.std.proofs.lemmas.Int.{to_z-of_z}
use Rattle.typed_tree.specs.TypedTree.{TypedExpression}
use Rattle.typed_tree.specs.TypedView.{expression, kind_view}
use Rattle.cond_jumps.specs.LongView.{long}
use Rattle.cond_jumps.specs.Paths.{constant_of, constant_operation}
use Rattle.cond_jumps.proofs.linear.+constant.Goals as goal

pub returns-in-Lit : goal.returns-in-Lit
returns-in-Lit t c =
    let P : TypedExpression → Type 0 = λ d. IfOk c.new.result (λ l. long l ≡ constant_of d) in
    let f : FitsSigned w128 c.in-Lit.n = search rules in
    subst P (sym (ap (kind_view c.args.expr.now.span) c.in-Lit.is)) (simp to_z-of_z at c.new.ensures)

pub returns-in-Old : goal.returns-in-Old
returns-in-Old t c =
    let P : TypedExpression → Type 0 = λ d. IfOk c.constant.result (λ l. long l ≡ constant_of d) in
    subst P (sym (ap (kind_view c.args.expr.now.span) c.in-Old.is)) (subst P (ap expression c.deref.ensures) c.constant.ensures)

pub returns-in_ok-constant-in-Neg : goal.returns-in_ok-constant-in-Neg
returns-in_ok-constant-in-Neg t c =
    let P : TypedExpression → Type 0 = λ d. IfOk c.opposite.result (λ l. long l ≡ constant_of d) in
    let Q : ℤ → Type 0 = λ z. IfOk c.opposite.result (λ l. long l ≡ neg_ℤ z) in
    subst P (sym (ap (kind_view c.args.expr.now.span) c.in-Neg.is))
    (subst Q (c.in_ok-constant-in-Neg.ensures ∙ ap (λ (e : TypedExpression). constant_of e) (ap expression c.deref-in-Neg.ensures)) c.opposite.ensures)

pub returns-in_ok-second-in-Bin : goal.returns-in_ok-second-in-Bin
returns-in_ok-second-in-Bin t c =
    let P : TypedExpression → Type 0 = λ d. IfOk c.constant_operation.result (λ l. long l ≡ constant_of d) in
    let Q : ℤ → Type 0 = λ z. IfOk c.constant_operation.result (λ l. long l ≡ z) in
    let a = c.in_ok-first-in-Bin.ensures ∙ ap (λ (e : TypedExpression). constant_of e) (ap expression c.deref-in-Bin.ensures) in
    let b = c.in_ok-second-in-Bin.ensures ∙ ap (λ (e : TypedExpression). constant_of e) (ap expression c.deref-in-Bin-2.ensures) in
    subst P (sym (ap (kind_view c.args.expr.now.span) c.in-Bin.is)) (subst Q (λ j. constant_operation c.in-Bin.op (a j) (b j)) c.constant_operation.ensures)
