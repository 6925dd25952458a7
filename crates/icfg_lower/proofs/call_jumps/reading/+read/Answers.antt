use Rattle.std.proofs.Common.{◌≡◌, true, sym, ap, subst, ◌∙◌}
use Rattle.std.specs.Prelude.{IfOk}
use Rattle.boogie_tree.specs.declared.tree.Column.{Column}
use Rattle.typed_tree.specs.TypedTree.{TypedExpression, Not, Neg}
use Rattle.typed_tree.specs.TypedView.{expression, kind_view}
use Rattle.icfg_lower.specs.CallJumps.Ties.Reading.{Stand, is_truth_by, read_by, rebuilt}
use Rattle.icfg_lower.specs.CallJumps.Ties.Stands.{stands_of}
use Rattle.icfg_lower.proofs.call_jumps.reading.+read.Goals as goal

pub returns-in_ok-standing-in-Var : goal.returns-in_ok-standing-in-Var
returns-in_ok-standing-in-Var t c =
    let s : Column → Stand = stands_of c.args.reader.now in
    let P : TypedExpression → Type 0 = λ d. expression c.in_ok-standing-in-Var.standing.expr ≡ read_by s c.args.old d in
    subst P (sym (ap (kind_view c.args.expr.now.span) c.in-Var.is)) (ap (λ (z : Stand). z.expression) (c.in_ok-standing-in-Var.ensures ∙ ap s c.read_at.ensures))

pub returns-in-Old : goal.returns-in-Old
returns-in-Old t c =
    let s : Column → Stand = stands_of c.args.reader.now in
    let P : TypedExpression → Type 0 = λ d. IfOk c.read.result (λ e. expression e ≡ read_by s c.args.old d) in
    let Q : TypedExpression → Type 0 = λ d. IfOk c.read.result (λ e. expression e ≡ d) in
    subst P (sym (ap (kind_view c.args.expr.now.span) c.in-Old.is)) (subst Q (ap (λ (d : TypedExpression). read_by s true d) (ap expression c.deref.ensures)) c.read.ensures)

pub returns-in_ok-y-in-Bin : goal.returns-in_ok-y-in-Bin
returns-in_ok-y-in-Bin t c =
    let s : Column → Stand = stands_of c.args.reader.now in
    let a : TypedExpression = expression c.in-Bin.left.value in
    let b : TypedExpression = expression c.in-Bin.right.value in
    let k : c.in_ok-truths-in-Bin.truths ≡ is_truth_by s c.args.old a = c.in_ok-truths-in-Bin.ensures ∙ ap (λ (d : TypedExpression). is_truth_by s c.args.old d) (ap expression c.deref-in-Bin.ensures) in
    let x : expression c.in_ok-x-in-Bin.x ≡ read_by s c.args.old a = c.in_ok-x-in-Bin.ensures ∙ ap (λ (d : TypedExpression). read_by s c.args.old d) (ap expression c.deref-in-Bin-2.ensures) in
    let y : expression c.in_ok-y-in-Bin.y ≡ read_by s c.args.old b = c.in_ok-y-in-Bin.ensures ∙ ap (λ (d : TypedExpression). read_by s c.args.old d) (ap expression c.deref-in-Bin-3.ensures) in
    let l : expression c.deref-in-Bin-4.result.now ≡ a = ap expression c.deref-in-Bin-4.ensures in
    let r : expression c.deref-in-Bin-5.result.now ≡ b = ap expression c.deref-in-Bin-5.ensures in
    let P : TypedExpression → Type 0 = λ d. IfOk c.rebuilt.result (λ e. expression e ≡ read_by s c.args.old d) in
    let Q : TypedExpression → Type 0 = λ d. IfOk c.rebuilt.result (λ e. expression e ≡ d) in
    subst P (sym (ap (kind_view c.args.expr.now.span) c.in-Bin.is)) (subst Q (λ j. rebuilt c.args.expr.now.span c.in-Bin.op (k j) (l j) (r j) (x j) (y j)) c.rebuilt.ensures)

pub returns-in_ok-read-in-Not : goal.returns-in_ok-read-in-Not
returns-in_ok-read-in-Not t c =
    let s : Column → Stand = stands_of c.args.reader.now in
    let P : TypedExpression → Type 0 = λ d. IfOk c.negation.result (λ e. expression e ≡ read_by s c.args.old d) in
    let Q : TypedExpression → Type 0 = λ d. IfOk c.negation.result (λ e. expression e ≡ d) in
    subst P (sym (ap (kind_view c.args.expr.now.span) c.in-Not.is))
    (subst Q (ap (Not c.args.expr.now.span) (c.in_ok-read-in-Not.ensures ∙ ap (λ (d : TypedExpression). read_by s c.args.old d) (ap expression c.deref-in-Not.ensures))) c.negation.ensures)

pub returns-in_ok-read-in-Neg : goal.returns-in_ok-read-in-Neg
returns-in_ok-read-in-Neg t c =
    let s : Column → Stand = stands_of c.args.reader.now in
    let P : TypedExpression → Type 0 = λ d. IfOk c.negative.result (λ e. expression e ≡ read_by s c.args.old d) in
    let Q : TypedExpression → Type 0 = λ d. IfOk c.negative.result (λ e. expression e ≡ d) in
    subst P (sym (ap (kind_view c.args.expr.now.span) c.in-Neg.is))
    (subst Q (ap (Neg c.args.expr.now.span) (c.in_ok-read-in-Neg.ensures ∙ ap (λ (d : TypedExpression). read_by s c.args.old d) (ap expression c.deref-in-Neg.ensures))) c.negative.ensures)
