use Rattle.std.proofs.Common.{◌≡◌, ℕ, ◌+◌, Bool, true, false, not, Ok, ap, sym, subst, ◌∙◌}
use Rattle.boogie_tree.specs.declared.tree.Column.{Column}
use Rattle.typed_tree.specs.TypedTree.{TypedExpression}
use Rattle.typed_tree.specs.TypedView.{expression, kind_view}
use Rattle.cond_jumps.specs.declared.shapes.Shape.TheVariants.{Sums}
use Rattle.cond_jumps.specs.Conjunctions.{all_fit}
use Rattle.cond_jumps.specs.Environments.{Environment}
use Rattle.cond_jumps.specs.Frames.{frame_environment}
use Rattle.cond_jumps.specs.Ties.JoinView.{helpers_by}
use Rattle.cond_jumps.specs.ListView.{asked, sums_plan}
use Rattle.cond_jumps.specs.Moving.{IsEvenPlan}
use Rattle.cond_jumps.specs.Ties.PairView.{ArePlanLists, ArePlanAnswers}
use Rattle.cond_jumps.specs.Paths.{linear, is_truth, paths}
use Rattle.cond_jumps.proofs.EvenLemmas.{frame_even, paths_even}
use Rattle.cond_jumps.proofs.PairAnswers.{lists_shape_answer, lists_at, sum_lists_at}
use Rattle.cond_jumps.proofs.ShapeFaults.{AreNeeds, unfit_on, first_fault, second_fault, put_together, lists_fault, unfit_at, unfit_before}
use Rattle.cond_jumps.proofs.lists.+lists.Goals as goal

pub returns-in-Sums : goal.returns-in-Sums
returns-in-Sums t c =
    let v : Environment = frame_environment c.args.frame.now.columns.items in
    let e : TypedExpression = expression c.in-Bin.left.value in
    let f : TypedExpression = expression c.in-Bin.right.value in
    let k : c.in_ok-truths-in-Bin.truths ≡ is_truth v c.args.old e = c.in_ok-truths-in-Bin.ensures ∙ ap (λ (d : TypedExpression). is_truth v c.args.old d) (ap expression c.deref-in-Bin.ensures) in
    let P : TypedExpression → Type 0 = λ d. ArePlanAnswers (paths v c.args.old d c.args.want) (asked c.args.both (paths v c.args.old d (not c.args.want))) c.args.base c.sums_lists.result in
    subst P (sym (ap (kind_view c.args.expr.now.span) c.in-Bin.is))
    (lists_shape_answer v c.args.old c.args.expr.now.span c.in-Bin.op e f c.args.want c.args.both c.args.base c.sums_lists.result c.in_ok-truths-in-Bin.truths Sums k
    (sym c.in-Sums.is ∙ c.of-shape.ensures)
    (sum_lists_at v c.args.old c.in-Bin.op c.args.want c.args.both c.args.base c.sums_lists.result (expression c.deref-in-Sums.result.now) e (expression c.deref-in-Sums-2.result.now) f
    (ap expression c.deref-in-Sums.ensures) (ap expression c.deref-in-Sums-2.ensures) c.sums_lists.ensures))

pub returns-in_err-a-in_default : goal.returns-in_err-a-in_default
returns-in_err-a-in_default t c =
    let v : Environment = frame_environment c.args.frame.now.columns.items in
    let e : TypedExpression = expression c.in-Bin.left.value in
    let f : TypedExpression = expression c.in-Bin.right.value in
    let k : c.in_ok-truths-in-Bin.truths ≡ is_truth v c.args.old e = c.in_ok-truths-in-Bin.ensures ∙ ap (λ (d : TypedExpression). is_truth v c.args.old d) (ap expression c.deref-in-Bin.ensures) in
    let needs : AreNeeds c.of-shape.result c.args.both c.needs-needs.result = record { by_both = c.needs-needs.ensures.both; by_over = c.needs-needs.ensures.over; by_alike = c.needs-needs.ensures.alike; operation = c.in_default.not-Sums } in
    let P : TypedExpression → Type 0 = λ d. ArePlanAnswers (paths v c.args.old d c.args.want) (asked c.args.both (paths v c.args.old d (not c.args.want))) c.args.base c.from_residual-in_err-a-in_default.result in
    subst P (sym (ap (kind_view c.args.expr.now.span) c.in-Bin.is))
    (lists_fault v c.args.old c.args.expr.now.span c.in-Bin.op e f c.args.want c.args.both c.args.base c.from_residual-in_err-a-in_default.result c.in_ok-truths-in-Bin.truths c.of-shape.result c.in_err-a-in_default.field-0.0 k
    c.of-shape.ensures c.from_residual-in_err-a-in_default.ensures.1
    (λ u. first_fault (λ p. all_fit p c.args.base ≡ false) (unfit_on c.args.base) c.of-shape.result c.args.both c.needs-needs.result (paths v c.args.old e) (paths v c.args.old f)
    (sums_plan c.in-Bin.op (linear v c.args.old e) (linear v c.args.old f) c.args.want) (sums_plan c.in-Bin.op (linear v c.args.old e) (linear v c.args.old f) (not c.args.want)) needs
    (unfit_at v c.args.old c.needs-needs.result.first c.needs-needs.result.first_other c.args.base (expression c.deref-in_default.result.now) e (ap expression c.deref-in_default.ensures) (c.in_err-a-in_default.ensures u))))

pub returns-in_err-b-in_default : goal.returns-in_err-b-in_default
returns-in_err-b-in_default t c =
    let v : Environment = frame_environment c.args.frame.now.columns.items in
    let e : TypedExpression = expression c.in-Bin.left.value in
    let f : TypedExpression = expression c.in-Bin.right.value in
    let k : c.in_ok-truths-in-Bin.truths ≡ is_truth v c.args.old e = c.in_ok-truths-in-Bin.ensures ∙ ap (λ (d : TypedExpression). is_truth v c.args.old d) (ap expression c.deref-in-Bin.ensures) in
    let needs : AreNeeds c.of-shape.result c.args.both c.needs-needs.result = record { by_both = c.needs-needs.ensures.both; by_over = c.needs-needs.ensures.over; by_alike = c.needs-needs.ensures.alike; operation = c.in_default.not-Sums } in
    let even : (z : Bool) → IsEvenPlan c.args.base (paths v c.args.old f z) = λ z. paths_even c.args.base v (frame_even c.args.base c.args.frame.now.columns.items c.requires) c.args.old f z in
    let P : TypedExpression → Type 0 = λ d. ArePlanAnswers (paths v c.args.old d c.args.want) (asked c.args.both (paths v c.args.old d (not c.args.want))) c.args.base c.from_residual-in_err-b-in_default.result in
    subst P (sym (ap (kind_view c.args.expr.now.span) c.in-Bin.is))
    (lists_fault v c.args.old c.args.expr.now.span c.in-Bin.op e f c.args.want c.args.both c.args.base c.from_residual-in_err-b-in_default.result c.in_ok-truths-in-Bin.truths c.of-shape.result c.in_err-b-in_default.field-0.0 k
    c.of-shape.ensures c.from_residual-in_err-b-in_default.ensures.1
    (λ u. second_fault (λ p. all_fit p c.args.base ≡ false) (unfit_on c.args.base) c.of-shape.result c.args.both c.needs-needs.result (paths v c.args.old e) (paths v c.args.old f)
    (sums_plan c.in-Bin.op (linear v c.args.old e) (linear v c.args.old f) c.args.want) (sums_plan c.in-Bin.op (linear v c.args.old e) (linear v c.args.old f) (not c.args.want)) needs
    (unfit_before c.args.base c.helpers_before.result c.in_ok-next-in_default.next c.needs-needs.result.second_other (paths v c.args.old f c.needs-needs.result.second) (paths v c.args.old f (not c.needs-needs.result.second))
    (even c.needs-needs.result.second) (even (not c.needs-needs.result.second)) c.in_ok-next-in_default.ensures
    (unfit_at v c.args.old c.needs-needs.result.second c.needs-needs.result.second_other c.in_ok-next-in_default.next (expression c.deref-in_default-2.result.now) f (ap expression c.deref-in_default-2.ensures) (c.in_err-b-in_default.ensures u)))))

pub returns-in_ok-together-in_default : goal.returns-in_ok-together-in_default
returns-in_ok-together-in_default t c =
    let v : Environment = frame_environment c.args.frame.now.columns.items in
    let e : TypedExpression = expression c.in-Bin.left.value in
    let f : TypedExpression = expression c.in-Bin.right.value in
    let k : c.in_ok-truths-in-Bin.truths ≡ is_truth v c.args.old e = c.in_ok-truths-in-Bin.ensures ∙ ap (λ (d : TypedExpression). is_truth v c.args.old d) (ap expression c.deref-in-Bin.ensures) in
    let needs : AreNeeds c.of-shape.result c.args.both c.needs-needs.result = record { by_both = c.needs-needs.ensures.both; by_over = c.needs-needs.ensures.over; by_alike = c.needs-needs.ensures.alike; operation = c.in_default.not-Sums } in
    let even : (z : Bool) → IsEvenPlan c.args.base (paths v c.args.old f z) = λ z. paths_even c.args.base v (frame_even c.args.base c.args.frame.now.columns.items c.requires) c.args.old f z in
    let next : c.in_ok-next-in_default.next ≡ c.args.base + helpers_by c.of-shape.result c.in_ok-a-in_default.a = c.in_ok-next-in_default.ensures ∙ ap (λ (k : ℕ). c.args.base + k) c.helpers_before.ensures in
    let P : TypedExpression → Type 0 = λ d. ArePlanLists (paths v c.args.old d c.args.want) (asked c.args.both (paths v c.args.old d (not c.args.want))) c.args.base c.in_ok-together-in_default.field-0 in
    subst P (sym (ap (kind_view c.args.expr.now.span) c.in-Bin.is))
    (lists_shape_answer v c.args.old c.args.expr.now.span c.in-Bin.op e f c.args.want c.args.both c.args.base (Ok c.in_ok-together-in_default.field-0) c.in_ok-truths-in-Bin.truths c.of-shape.result k
    c.of-shape.ensures
    (put_together (λ p q. ArePlanLists p q c.args.base c.in_ok-a-in_default.a) (λ p q. ArePlanLists p q (c.args.base + helpers_by c.of-shape.result c.in_ok-a-in_default.a) c.in_ok-b-in_default.b) (λ p q. ArePlanLists p q c.args.base c.in_ok-together-in_default.field-0)
    (IsEvenPlan c.args.base) c.of-shape.result c.args.both c.needs-needs.result (paths v c.args.old e) (paths v c.args.old f)
    (sums_plan c.in-Bin.op (linear v c.args.old e) (linear v c.args.old f) c.args.want) (sums_plan c.in-Bin.op (linear v c.args.old e) (linear v c.args.old f) (not c.args.want)) needs
    c.in_ok-together-in_default.ensures.both c.in_ok-together-in_default.ensures.over c.in_ok-together-in_default.ensures.alike
    even
    (lists_at v c.args.old c.needs-needs.result.first c.needs-needs.result.first_other c.args.base c.in_ok-a-in_default.a (expression c.deref-in_default.result.now) e (ap expression c.deref-in_default.ensures) c.in_ok-a-in_default.ensures)
    (subst (λ (n : ℕ). ArePlanLists (paths v c.args.old f c.needs-needs.result.second) (asked c.needs-needs.result.second_other (paths v c.args.old f (not c.needs-needs.result.second))) n c.in_ok-b-in_default.b) next
    (lists_at v c.args.old c.needs-needs.result.second c.needs-needs.result.second_other c.in_ok-next-in_default.next c.in_ok-b-in_default.b (expression c.deref-in_default-2.result.now) f (ap expression c.deref-in_default-2.ensures) c.in_ok-b-in_default.ensures))))

pub returns-in-Old : goal.returns-in-Old
returns-in-Old t c =
    let v : Environment = frame_environment c.args.frame.now.columns.items in
    let P : TypedExpression → Type 0 = λ d. ArePlanAnswers (paths v c.args.old d c.args.want) (asked c.args.both (paths v c.args.old d (not c.args.want))) c.args.base c.lists.result in
    let Q : TypedExpression → Type 0 = λ d. ArePlanAnswers (paths v true d c.args.want) (asked c.args.both (paths v true d (not c.args.want))) c.args.base c.lists.result in
    subst P (sym (ap (kind_view c.args.expr.now.span) c.in-Old.is)) (subst Q (ap expression c.deref.ensures) c.lists.ensures)

pub returns-in-Not : goal.returns-in-Not
returns-in-Not t c =
    let v : Environment = frame_environment c.args.frame.now.columns.items in
    let P : TypedExpression → Type 0 = λ d. ArePlanAnswers (paths v c.args.old d c.args.want) (asked c.args.both (paths v c.args.old d (not c.args.want))) c.args.base c.lists-in-Not.result in
    let Q : TypedExpression → Type 0 = λ d. ArePlanAnswers (paths v c.args.old d (not c.args.want)) (asked c.args.both (paths v c.args.old d (not (not c.args.want)))) c.args.base c.lists-in-Not.result in
    subst P (sym (ap (kind_view c.args.expr.now.span) c.in-Not.is)) (subst Q (ap expression c.deref-in-Not.ensures) c.lists-in-Not.ensures)

pub returns-in-Var : goal.returns-in-Var
returns-in-Var t c =
    let v : Environment = frame_environment c.args.frame.now.columns.items in
    let P : TypedExpression → Type 0 = λ d. ArePlanAnswers (paths v c.args.old d c.args.want) (asked c.args.both (paths v c.args.old d (not c.args.want))) c.args.base c.column_lists.result in
    let Q : Column → Type 0 = λ k. ArePlanAnswers (v.plan k c.args.want) (asked c.args.both (v.plan k (not c.args.want))) c.args.base c.column_lists.result in
    subst P (sym (ap (kind_view c.args.expr.now.span) c.in-Var.is)) (subst Q c.read_at.ensures (c.column_lists.ensures c.args.base))

pub returns-in_ok-literal_lists-in-Truth : goal.returns-in_ok-literal_lists-in-Truth
returns-in_ok-literal_lists-in-Truth t c =
    let v : Environment = frame_environment c.args.frame.now.columns.items in
    let P : TypedExpression → Type 0 = λ d. ArePlanLists (paths v c.args.old d c.args.want) (asked c.args.both (paths v c.args.old d (not c.args.want))) c.args.base c.in_ok-literal_lists-in-Truth.field-0 in
    subst P (sym (ap (kind_view c.args.expr.now.span) c.in-Truth.is)) (c.in_ok-literal_lists-in-Truth.ensures c.args.base)
