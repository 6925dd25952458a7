use Rattle.std.proofs.Common.{◌≡◌, true, not, Ok, ap, sym, subst, ◌∙◌}
use Rattle.boogie_tree.specs.declared.tree.Column.{Column}
use Rattle.typed_tree.specs.TypedTree.{TypedExpression}
use Rattle.typed_tree.specs.TypedView.{expression, kind_view}
use Rattle.cond_jumps.specs.declared.shapes.Shape.TheVariants.{Sums}
use Rattle.cond_jumps.specs.Conjunctions.{is_wide}
use Rattle.cond_jumps.specs.Environments.{Environment}
use Rattle.cond_jumps.specs.Frames.{frame_environment}
use Rattle.cond_jumps.specs.ListView.{asked, sums_plan}
use Rattle.cond_jumps.specs.Moving.{IsEvenPlan}
use Rattle.cond_jumps.specs.Ties.PairView.{AreWidths, AreWidthAnswers}
use Rattle.cond_jumps.specs.Paths.{linear, is_truth, paths}
use Rattle.cond_jumps.proofs.EvenLemmas.{frame_even, paths_even}
use Rattle.cond_jumps.proofs.PairAnswers.{widths_shape_answer, widths_at}
use Rattle.cond_jumps.proofs.ShapeFaults.{AreNeeds, wide_on, first_fault, second_fault, put_together, widths_fault, wide_at}
use Rattle.cond_jumps.proofs.widths.+widths.Goals as goal

pub returns-in-Sums : goal.returns-in-Sums
returns-in-Sums t c = λ n l.
    let v : Environment = frame_environment c.args.frame.now.columns.items in
    let e : TypedExpression = expression c.in-Bin.left.value in
    let f : TypedExpression = expression c.in-Bin.right.value in
    let k : c.in_ok-truths-in-Bin.truths ≡ is_truth v c.args.old e = c.in_ok-truths-in-Bin.ensures ∙ ap (λ (d : TypedExpression). is_truth v c.args.old d) (ap expression c.deref-in-Bin.ensures) in
    let P : TypedExpression → Type 0 = λ d. AreWidths (paths v c.args.old d c.args.want) (asked c.args.both (paths v c.args.old d (not c.args.want))) n c.sums_widths.result in
    subst P (sym (ap (kind_view c.args.expr.now.span) c.in-Bin.is))
    (widths_shape_answer v c.args.old c.args.expr.now.span c.in-Bin.op e f c.args.want c.args.both n (Ok c.sums_widths.result) c.in_ok-truths-in-Bin.truths Sums k
    (sym c.in-Sums.is ∙ c.of-shape.ensures) (c.sums_widths.ensures (linear v c.args.old e) (linear v c.args.old f) n))

pub returns-in_err-a-in_default : goal.returns-in_err-a-in_default
returns-in_err-a-in_default t c = λ n l.
    let v : Environment = frame_environment c.args.frame.now.columns.items in
    let e : TypedExpression = expression c.in-Bin.left.value in
    let f : TypedExpression = expression c.in-Bin.right.value in
    let k : c.in_ok-truths-in-Bin.truths ≡ is_truth v c.args.old e = c.in_ok-truths-in-Bin.ensures ∙ ap (λ (d : TypedExpression). is_truth v c.args.old d) (ap expression c.deref-in-Bin.ensures) in
    let needs : AreNeeds c.of-shape.result c.args.both c.needs-needs.result = record { by_both = c.needs-needs.ensures.both; by_over = c.needs-needs.ensures.over; by_alike = c.needs-needs.ensures.alike; operation = c.in_default.not-Sums } in
    let P : TypedExpression → Type 0 = λ d. AreWidthAnswers (paths v c.args.old d c.args.want) (asked c.args.both (paths v c.args.old d (not c.args.want))) n c.from_residual-in_err-a-in_default.result in
    subst P (sym (ap (kind_view c.args.expr.now.span) c.in-Bin.is))
    (widths_fault v c.args.old c.args.expr.now.span c.in-Bin.op e f c.args.want c.args.both n c.from_residual-in_err-a-in_default.result c.in_ok-truths-in-Bin.truths c.of-shape.result c.in_err-a-in_default.field-0.0 k
    c.of-shape.ensures c.from_residual-in_err-a-in_default.ensures.1
    (λ u. first_fault (λ p. is_wide p n ≡ true) (wide_on n) c.of-shape.result c.args.both c.needs-needs.result (paths v c.args.old e) (paths v c.args.old f)
    (sums_plan c.in-Bin.op (linear v c.args.old e) (linear v c.args.old f) c.args.want) (sums_plan c.in-Bin.op (linear v c.args.old e) (linear v c.args.old f) (not c.args.want)) needs
    (wide_at v c.args.old c.needs-needs.result.first c.needs-needs.result.first_other n (expression c.deref-in_default.result.now) e (ap expression c.deref-in_default.ensures) ((c.in_err-a-in_default.ensures n l).0 u)))
    (c.in_err-a-in_default.ensures n l).1)

pub returns-in_err-b-in_default : goal.returns-in_err-b-in_default
returns-in_err-b-in_default t c = λ n l.
    let v : Environment = frame_environment c.args.frame.now.columns.items in
    let e : TypedExpression = expression c.in-Bin.left.value in
    let f : TypedExpression = expression c.in-Bin.right.value in
    let k : c.in_ok-truths-in-Bin.truths ≡ is_truth v c.args.old e = c.in_ok-truths-in-Bin.ensures ∙ ap (λ (d : TypedExpression). is_truth v c.args.old d) (ap expression c.deref-in-Bin.ensures) in
    let needs : AreNeeds c.of-shape.result c.args.both c.needs-needs.result = record { by_both = c.needs-needs.ensures.both; by_over = c.needs-needs.ensures.over; by_alike = c.needs-needs.ensures.alike; operation = c.in_default.not-Sums } in
    let P : TypedExpression → Type 0 = λ d. AreWidthAnswers (paths v c.args.old d c.args.want) (asked c.args.both (paths v c.args.old d (not c.args.want))) n c.from_residual-in_err-b-in_default.result in
    subst P (sym (ap (kind_view c.args.expr.now.span) c.in-Bin.is))
    (widths_fault v c.args.old c.args.expr.now.span c.in-Bin.op e f c.args.want c.args.both n c.from_residual-in_err-b-in_default.result c.in_ok-truths-in-Bin.truths c.of-shape.result c.in_err-b-in_default.field-0.0 k
    c.of-shape.ensures c.from_residual-in_err-b-in_default.ensures.1
    (λ u. second_fault (λ p. is_wide p n ≡ true) (wide_on n) c.of-shape.result c.args.both c.needs-needs.result (paths v c.args.old e) (paths v c.args.old f)
    (sums_plan c.in-Bin.op (linear v c.args.old e) (linear v c.args.old f) c.args.want) (sums_plan c.in-Bin.op (linear v c.args.old e) (linear v c.args.old f) (not c.args.want)) needs
    (wide_at v c.args.old c.needs-needs.result.second c.needs-needs.result.second_other n (expression c.deref-in_default-2.result.now) f (ap expression c.deref-in_default-2.ensures) ((c.in_err-b-in_default.ensures n l).0 u)))
    (c.in_err-b-in_default.ensures n l).1)

pub returns-in_ok-b-in_default : goal.returns-in_ok-b-in_default
returns-in_ok-b-in_default t c = λ n l.
    let v : Environment = frame_environment c.args.frame.now.columns.items in
    let e : TypedExpression = expression c.in-Bin.left.value in
    let f : TypedExpression = expression c.in-Bin.right.value in
    let k : c.in_ok-truths-in-Bin.truths ≡ is_truth v c.args.old e = c.in_ok-truths-in-Bin.ensures ∙ ap (λ (d : TypedExpression). is_truth v c.args.old d) (ap expression c.deref-in-Bin.ensures) in
    let needs : AreNeeds c.of-shape.result c.args.both c.needs-needs.result = record { by_both = c.needs-needs.ensures.both; by_over = c.needs-needs.ensures.over; by_alike = c.needs-needs.ensures.alike; operation = c.in_default.not-Sums } in
    let P : TypedExpression → Type 0 = λ d. AreWidthAnswers (paths v c.args.old d c.args.want) (asked c.args.both (paths v c.args.old d (not c.args.want))) n c.together.result in
    subst P (sym (ap (kind_view c.args.expr.now.span) c.in-Bin.is))
    (widths_shape_answer v c.args.old c.args.expr.now.span c.in-Bin.op e f c.args.want c.args.both n c.together.result c.in_ok-truths-in-Bin.truths c.of-shape.result k
    c.of-shape.ensures
    (put_together (λ p q. AreWidths p q n c.in_ok-a-in_default.a) (λ p q. AreWidths p q n c.in_ok-b-in_default.b) (λ p q. AreWidthAnswers p q n c.together.result)
    (IsEvenPlan n) c.of-shape.result c.args.both c.needs-needs.result (paths v c.args.old e) (paths v c.args.old f)
    (sums_plan c.in-Bin.op (linear v c.args.old e) (linear v c.args.old f) c.args.want) (sums_plan c.in-Bin.op (linear v c.args.old e) (linear v c.args.old f) (not c.args.want)) needs
    (λ x y i. c.together.ensures.both x y i n) (λ x y i. c.together.ensures.over x y i n) (λ same i. c.together.ensures.alike same i n)
    (λ z. paths_even n v (frame_even n c.args.frame.now.columns.items l) c.args.old f z)
    (widths_at v c.args.old c.needs-needs.result.first c.needs-needs.result.first_other n c.in_ok-a-in_default.a (expression c.deref-in_default.result.now) e (ap expression c.deref-in_default.ensures) (c.in_ok-a-in_default.ensures n l))
    (widths_at v c.args.old c.needs-needs.result.second c.needs-needs.result.second_other n c.in_ok-b-in_default.b (expression c.deref-in_default-2.result.now) f (ap expression c.deref-in_default-2.ensures) (c.in_ok-b-in_default.ensures n l))))

pub returns-in-Old : goal.returns-in-Old
returns-in-Old t c = λ n l.
    let v : Environment = frame_environment c.args.frame.now.columns.items in
    let P : TypedExpression → Type 0 = λ d. AreWidthAnswers (paths v c.args.old d c.args.want) (asked c.args.both (paths v c.args.old d (not c.args.want))) n c.widths.result in
    let Q : TypedExpression → Type 0 = λ d. AreWidthAnswers (paths v true d c.args.want) (asked c.args.both (paths v true d (not c.args.want))) n c.widths.result in
    subst P (sym (ap (kind_view c.args.expr.now.span) c.in-Old.is)) (subst Q (ap expression c.deref.ensures) (c.widths.ensures n l))

pub returns-in-Not : goal.returns-in-Not
returns-in-Not t c = λ n l.
    let v : Environment = frame_environment c.args.frame.now.columns.items in
    let P : TypedExpression → Type 0 = λ d. AreWidthAnswers (paths v c.args.old d c.args.want) (asked c.args.both (paths v c.args.old d (not c.args.want))) n c.widths-in-Not.result in
    let Q : TypedExpression → Type 0 = λ d. AreWidthAnswers (paths v c.args.old d (not c.args.want)) (asked c.args.both (paths v c.args.old d (not (not c.args.want)))) n c.widths-in-Not.result in
    subst P (sym (ap (kind_view c.args.expr.now.span) c.in-Not.is)) (subst Q (ap expression c.deref-in-Not.ensures) (c.widths-in-Not.ensures n l))

pub returns-in-Truth : goal.returns-in-Truth
returns-in-Truth t c = λ n l.
    let v : Environment = frame_environment c.args.frame.now.columns.items in
    let P : TypedExpression → Type 0 = λ d. AreWidths (paths v c.args.old d c.args.want) (asked c.args.both (paths v c.args.old d (not c.args.want))) n c.literal_widths.result in
    subst P (sym (ap (kind_view c.args.expr.now.span) c.in-Truth.is)) (c.literal_widths.ensures n)

pub returns-in_ok-column_widths-in-Var : goal.returns-in_ok-column_widths-in-Var
returns-in_ok-column_widths-in-Var t c = λ n l.
    let v : Environment = frame_environment c.args.frame.now.columns.items in
    let P : TypedExpression → Type 0 = λ d. AreWidths (paths v c.args.old d c.args.want) (asked c.args.both (paths v c.args.old d (not c.args.want))) n c.in_ok-column_widths-in-Var.field-0 in
    let Q : Column → Type 0 = λ k. AreWidths (v.plan k c.args.want) (asked c.args.both (v.plan k (not c.args.want))) n c.in_ok-column_widths-in-Var.field-0 in
    subst P (sym (ap (kind_view c.args.expr.now.span) c.in-Var.is)) (subst Q c.read_at.ensures (c.in_ok-column_widths-in-Var.ensures c.args.want n))
