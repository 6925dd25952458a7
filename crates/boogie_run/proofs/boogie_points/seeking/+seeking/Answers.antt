use Rattle.std.proofs.Common.{◌∙◌, ◌+◌, ◌∷◌, ℕ, List, ap, sym, refl, map, length, drop, arith}
use Rattle.std.proofs.lemmas.List.{length-map, take_rest, drop_more}
use Rattle.typed_tree.specs.declared.types.TInv.{TInv}
use Rattle.typed_tree.specs.declared.types.TStmt.{TStmt}
use Rattle.typed_tree.specs.TypedTree.{TypedBlock, TypedStatement, If, While, Then}
use Rattle.typed_tree.specs.TypingRules.Counts.{block_assertions, block_points, plain_invariants}
use Rattle.boogie_run.specs.declared.boogie_points.seeking.Marks.{Marks}
use Rattle.typed_tree.specs.TypedView as view
use Rattle.boogie_run.specs.BoogiePoints.View.{stack_of}
use Rattle.boogie_run.proofs.BoogiePoints.SeekLaws.{if_seen, while_seen, else_found, while_found, same_search}
use Rattle.boogie_run.proofs.BoogiePoints.SearchSteps.{searched_on, searched_there, searched_all, branch_fits, head_fits}
use Rattle.boogie_run.proofs.PastSteps.{asserted, placed}
use Rattle.boogie_run.proofs.boogie_points.seeking.+seeking.Goals as goal

pub seek_in-returns-else-branch : goal.seek_in-returns-else-branch
seek_in-returns-else-branch t c =
    else_found c.seek_under-in-If.result (map view.procedure c.args.procs.now) c.args.label (view.statement c.args.first.now) (view.statements c.args.rest.now)
    c.args.marks.of_loop c.args.marks.id c.args.marks.at (stack_of c.args.todo.now.items) (stack_of c.seek_under.new.todo.items) _
    c.in-If.field-0 (view.guard c.in-If.field-1) (view.statements c.in-If.then.items) (view.statements c.in-If.otherwise.items) _ _ c.in_ok-seek_under-in-If.field-0
    (ap view.statement c.in-If.is ∙ if_seen c.in-If.field-0 c.in-If.field-1 c.in-If.then c.in-If.otherwise)
    (same_search _ _ _ _ _ _ _ _ _ _ _ _ _ (ap view.statements c.deref.ensures.value) refl refl refl c.past-after.ensures.past)
    c.if-branch.false c.in_ok-seek_under-in-If.ensures
    (same_search _ _ _ _ _ _ _ _ _ _ _ _ _ (ap view.statements c.deref-in-If-2.ensures.value) (ap (λ (m : Marks). m.of_loop) c.else_marks-inner.ensures)
    (ap (λ (m : Marks). m.id) c.else_marks-inner.ensures
    ∙ ap (λ (ss : List TStmt). c.args.marks.id + block_assertions (map view.procedure c.args.procs.now) (view.statements ss)) c.deref-in-If.ensures.value)
    (ap (λ (m : Marks). m.at) c.else_marks-inner.ensures
    ∙ ap (λ (ss : List TStmt). c.args.marks.at + 1 + block_points (map view.procedure c.args.procs.now) (view.statements ss)) c.deref-in-If.ensures.value)
    c.past-after.ensures.past)
    c.seek_under-in-If.ensures

pub seek_in-returns-in-While : goal.seek_in-returns-in-While
seek_in-returns-in-While t c =
    while_found c.seek_under-in-While.result (map view.procedure c.args.procs.now) c.args.label (view.statement c.args.first.now) (view.statements c.args.rest.now)
    c.args.marks.of_loop c.args.marks.id c.args.marks.at (stack_of c.args.todo.now.items) _
    c.in-While.field-0 (view.guard c.in-While.field-1) (map view.invariant c.in-While.conditions.items) (view.statements c.in-While.body.items) _
    (ap view.statement c.in-While.is ∙ while_seen c.in-While.field-0 c.in-While.field-1 c.in-While.conditions c.in-While.body)
    (same_search _ _ _ _ _ _ _ _ _ _ _ _ _ (ap view.statements c.deref-in-While-2.ensures.value) (ap (λ (m : Marks). m.of_loop) c.loop_marks-inner.ensures)
    (ap (λ (m : Marks). m.id) c.loop_marks-inner.ensures ∙ ap (λ (is : List TInv). c.args.marks.id + plain_invariants (map view.invariant is)) c.deref-in-While.ensures.value)
    (ap (λ (m : Marks). m.at) c.loop_marks-inner.ensures
    ∙ ap (λ (is : List TInv). c.args.marks.at + length is + 1) c.deref-in-While.ensures.value
    ∙ ap (λ (n : ℕ). c.args.marks.at + n + 1) (sym (length-map c.in-While.conditions.items view.invariant)))
    (ap (λ (r : TypedBlock). record { rest = r; of_loop = c.args.marks.of_loop; id = c.args.marks.id; at = c.args.marks.at }) (ap view.statements c.requires.whole)))
    c.seek_under-in-While.ensures

pub seek-loop-number-preserved : goal.seek-loop-number-preserved
seek-loop-number-preserved t c =
    let on = searched_on (map view.procedure c.args.procs.now) c.args.label c.args.block.now _ c.loop-number.number c.index-block-number.result c.loop-number.here.of_loop c.loop-number.here.id c.loop-number.here.at
    c.assertions.result c.points.result (stack_of c.args.todo.now.items) (stack_of c.loop-number.todo.items) (stack_of c.seek_in.new.todo.items) _ c.in_ok-seek_in.field-0
    c.loop-number-test.true c.index-block-number.is (take_rest c.args.block.now (c.loop-number.number + 1)) c.if-branch.false c.in_ok-seek_in.ensures c.loop-number.invariant.same
    c.assertions.ensures c.points.ensures
    (record { found = c.loop-number.invariant.found; assertions = c.loop-number.invariant.assertions; points = c.loop-number.invariant.points }) in
    record { found = on.0.found; same = on.1; assertions = on.0.assertions; points = on.0.points }

pub seek-returns-then-branch : goal.seek-returns-then-branch
seek-returns-then-branch t c =
    searched_there (map view.procedure c.args.procs.now) c.args.label c.args.block.now _ c.loop-number.number c.index-block-number.result c.loop-number.here.of_loop c.loop-number.here.id c.loop-number.here.at
    (stack_of c.args.todo.now.items) (stack_of c.loop-number.todo.items) (stack_of c.seek_in.new.todo.items) _ c.in_ok-seek_in.field-0
    c.loop-number-test.true c.index-block-number.is (take_rest c.args.block.now (c.loop-number.number + 1)) c.if-branch.true c.in_ok-seek_in.ensures c.loop-number.invariant.same c.loop-number.invariant.found

pub seek-returns : goal.seek-returns
seek-returns t c =
    searched_all (map view.procedure c.args.procs.now) c.args.label c.args.block.now c.loop-number.number c.loop-number.here.of_loop c.loop-number.here.id c.loop-number.here.at (stack_of c.args.todo.now.items)
    (stack_of c.loop-number.todo.items) _ c.loop-number-test.false c.loop-number.invariant.found c.loop-number.invariant.same

pub seek_in-past-after-requires : goal.seek_in-past-after-requires
seek_in-past-after-requires t c = record { first = c.requires.whole; room = record { assertions = c.requires.assertions; places = c.requires.points } }

pub seek_in-else_marks-inner-requires : goal.seek_in-else_marks-inner-requires
seek_in-else_marks-inner-requires t c =
    let fits = branch_fits (map view.procedure c.args.procs.now) c.in-If.field-0 (view.guard c.in-If.field-1) (view.statements c.deref-in-If.result.now) (view.statements c.in-If.otherwise.items) (view.statements c.args.rest.now)
    (view.statements c.args.whole.now) c.args.marks.id c.args.marks.at
    (ap view.statements c.requires.whole
    ∙ ap (λ (s : TypedStatement). Then s (view.statements c.args.rest.now)) (ap view.statement c.in-If.is ∙ if_seen c.in-If.field-0 c.in-If.field-1 c.in-If.then c.in-If.otherwise)
    ∙ ap (λ (ss : List TStmt). Then (If c.in-If.field-0 (view.guard c.in-If.field-1) (view.statements ss) (view.statements c.in-If.otherwise.items)) (view.statements c.args.rest.now)) (sym c.deref-in-If.ensures.value))
    c.requires.assertions c.requires.points in
    record { assertions = fits.0; points = fits.1 }

pub seek_in-loop_marks-inner-requires : goal.seek_in-loop_marks-inner-requires
seek_in-loop_marks-inner-requires t c =
    let fits = head_fits (map view.procedure c.args.procs.now) c.in-While.field-0 (view.guard c.in-While.field-1) (map view.invariant c.deref-in-While.result.now) (view.statements c.in-While.body.items) (view.statements c.args.rest.now)
    (view.statements c.args.whole.now) c.args.marks.id c.args.marks.at (length c.deref-in-While.result.now)
    (ap view.statements c.requires.whole
    ∙ ap (λ (s : TypedStatement). Then s (view.statements c.args.rest.now)) (ap view.statement c.in-While.is ∙ while_seen c.in-While.field-0 c.in-While.field-1 c.in-While.conditions c.in-While.body)
    ∙ ap (λ (is : List TInv). Then (While c.in-While.field-0 (view.guard c.in-While.field-1) (map view.invariant is) (view.statements c.in-While.body.items)) (view.statements c.args.rest.now)) (sym c.deref-in-While.ensures.value))
    (sym (length-map c.deref-in-While.result.now view.invariant)) c.requires.assertions c.requires.points in
    record { assertions = fits.0; points = fits.1 }

pub seek-assertions-requires : goal.seek-assertions-requires
seek-assertions-requires t c =
    let e =
    ap view.statements (drop_more c.args.block.now c.loop-number.number c.index-block-number.result c.loop-number-test.true
    ∙ ap (λ (s : TStmt). s ∷ drop (c.loop-number.number + 1) c.args.block.now) (sym c.index-block-number.is)) in
    let h = asserted (map view.procedure c.args.procs.now) (view.statement c.index-block-number.result) (view.statements (drop (c.loop-number.number + 1) c.args.block.now)) _ c.loop-number.here.id e c.loop-number.invariant.assertions in
    omega (arith, h)

pub seek-points-requires : goal.seek-points-requires
seek-points-requires t c =
    let e =
    ap view.statements (drop_more c.args.block.now c.loop-number.number c.index-block-number.result c.loop-number-test.true
    ∙ ap (λ (s : TStmt). s ∷ drop (c.loop-number.number + 1) c.args.block.now) (sym c.index-block-number.is)) in
    let k = placed (map view.procedure c.args.procs.now) (view.statement c.index-block-number.result) (view.statements (drop (c.loop-number.number + 1) c.args.block.now)) _ c.loop-number.here.at e c.loop-number.invariant.points in
    omega (arith, k)

pub seek-overflow_add-here : goal.seek-overflow_add-here
seek-overflow_add-here t c =
    let e =
    ap view.statements (drop_more c.args.block.now c.loop-number.number c.index-block-number.result c.loop-number-test.true
    ∙ ap (λ (s : TStmt). s ∷ drop (c.loop-number.number + 1) c.args.block.now) (sym c.index-block-number.is)) in
    let h = asserted (map view.procedure c.args.procs.now) (view.statement c.index-block-number.result) (view.statements (drop (c.loop-number.number + 1) c.args.block.now)) _ c.loop-number.here.id e c.loop-number.invariant.assertions in
    omega (arith, h, c.assertions.ensures)

pub seek-overflow_add-here-in-loop-number : goal.seek-overflow_add-here-in-loop-number
seek-overflow_add-here-in-loop-number t c =
    let e =
    ap view.statements (drop_more c.args.block.now c.loop-number.number c.index-block-number.result c.loop-number-test.true
    ∙ ap (λ (s : TStmt). s ∷ drop (c.loop-number.number + 1) c.args.block.now) (sym c.index-block-number.is)) in
    let k = placed (map view.procedure c.args.procs.now) (view.statement c.index-block-number.result) (view.statements (drop (c.loop-number.number + 1) c.args.block.now)) _ c.loop-number.here.at e c.loop-number.invariant.points in
    omega (arith, k, c.points.ensures)
