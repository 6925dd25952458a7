use Rattle.std.proofs.Common.{◌≡◌, ℕ, ◌+◌, ap, sym, subst, ◌∙◌, [], map, drop, None, Some, arith}
use Rattle.std.proofs.lemmas.List.{drop_all}
use Rattle.std.proofs.lemmas.Result.{err_from_is_err_and, MatchResult-weaker, on_ok_weaker}
use Rattle.boogie_tree.specs.View as view
use Rattle.typed_tree.specs.TypedView as typed
use Rattle.boogie_types.specs.Ties.Places.{loops_by, label_by}
use Rattle.boogie_types.specs.Ties.PlaceViews.{place_at}
use Rattle.boogie_types.specs.Naming.{named_statement, named_block, hidden_in}
use Rattle.boogie_types.specs.Ties.Making.{made, block_made}
use Rattle.boogie_types.specs.BrokenNames.{IsMisnamedIn}
use Rattle.boogie_types.specs.Ties.NamingFaults.{IsStatementFault, IsBlockFault}
use Rattle.boogie_types.proofs.BlockLaws.{block_anywhere, block_turn, block_end, hidden_turn, faults_turn, fault_turn}
use Rattle.boogie_types.proofs.Weights.{weight, block_weight, member_weight}
use Rattle.boogie_types.proofs.Seen.{assert_seen, assume_seen, havoc_seen, assign_seen, call_seen, if_seen, while_seen, break_seen, goto_seen, label_seen}
use Rattle.boogie_types.proofs.FaultLaws.{or_memory_to, fault_in_call, fault_in_branch, fault_in_then, fault_in_else, fault_in_loop, fault_in_invariant, fault_in_body, fault_in_break}
use Rattle.boogie_types.proofs.statements.+statements.Goals as goal

pub statement-put_branches-requires : goal.statement-put_branches-requires
statement-put_branches-requires t c =
    let v = ap view.statement c.in-If.is ∙ if_seen c.in-If.span c.in-If.cond c.in-If.then c.in-If.otherwise in
    let w : weight (view.statement c.args.statement.now) ≡ 1 + (block_weight (view.statements c.in-If.then.items) + block_weight (view.statements c.in-If.otherwise.items)) = ap weight v in
    let x : block_weight (view.statements c.deref-in-If.result.now) ≡ block_weight (view.statements c.in-If.then.items) = ap (λ ss. block_weight (view.statements ss)) c.deref-in-If.ensures.value in
    let y : block_weight (view.statements c.deref-in-If-2.result.now) ≡ block_weight (view.statements c.in-If.otherwise.items) = ap (λ ss. block_weight (view.statements ss)) c.deref-in-If-2.ensures.value in
    let d = c.decreases in (omega arith, tt)

pub statement-looped-requires : goal.statement-looped-requires
statement-looped-requires t c =
    let v = ap view.statement c.in-While.is ∙ while_seen c.in-While.span c.in-While.cond c.in-While.conditions c.in-While.body in
    let w : weight (view.statement c.args.statement.now) ≡ 1 + block_weight (view.statements c.in-While.body.items) = ap weight v in
    let x : block_weight (view.statements c.deref-in-While-2.result.now) ≡ block_weight (view.statements c.in-While.body.items) = ap (λ ss. block_weight (view.statements ss)) c.deref-in-While-2.ensures.value in
    let d = c.decreases in (omega arith, tt)

pub statement-returns-in-Assert-clause-ok : goal.statement-returns-in-Assert-clause-ok
statement-returns-in-Assert-clause-ok t c =
    let v = ap view.statement c.in-Assert.is ∙ assert_seen c.in-Assert.span c.in-Assert.claim in
    rw v c.assertion.ensures.ok

pub statement-returns-in-Assert-clause-fault : goal.statement-returns-in-Assert-clause-fault
statement-returns-in-Assert-clause-fault t c =
    let v = ap view.statement c.in-Assert.is ∙ assert_seen c.in-Assert.span c.in-Assert.claim in
    rw v (c.assertion.ensures.fault c.args.walk.now.loops.items (label_by c.args.before))

pub statement-returns-in-Assume-clause-ok : goal.statement-returns-in-Assume-clause-ok
statement-returns-in-Assume-clause-ok t c =
    let v = ap view.statement c.in-Assume.is ∙ assume_seen c.in-Assume.span c.in-Assume.claim in
    rw v c.assumption.ensures.ok

pub statement-returns-in-Assume-clause-fault : goal.statement-returns-in-Assume-clause-fault
statement-returns-in-Assume-clause-fault t c =
    let v = ap view.statement c.in-Assume.is ∙ assume_seen c.in-Assume.span c.in-Assume.claim in
    rw v (c.assumption.ensures.fault c.args.walk.now.loops.items (label_by c.args.before))

pub statement-returns-in-Havoc-clause-ok : goal.statement-returns-in-Havoc-clause-ok
statement-returns-in-Havoc-clause-ok t c =
    let v = ap view.statement c.in-Havoc.is ∙ havoc_seen c.in-Havoc.span c.in-Havoc.names in
    rw (v, ← c.deref.ensures.value) c.havoc.ensures.ok

pub statement-returns-in-Havoc-clause-fault : goal.statement-returns-in-Havoc-clause-fault
statement-returns-in-Havoc-clause-fault t c =
    let v = ap view.statement c.in-Havoc.is ∙ havoc_seen c.in-Havoc.span c.in-Havoc.names in
    rw (v, ← c.deref.ensures.value) (c.havoc.ensures.fault c.args.walk.now.loops.items (label_by c.args.before))

pub statement-returns-in-Goto-clause-ok : goal.statement-returns-in-Goto-clause-ok
statement-returns-in-Goto-clause-ok t c =
    let v = ap view.statement c.in-Goto.is ∙ goto_seen c.in-Goto.span c.in-Goto.names in
    rw (v, ← c.deref-in-Goto.ensures.value) c.goto.ensures.ok

pub statement-returns-in-Goto-clause-fault : goal.statement-returns-in-Goto-clause-fault
statement-returns-in-Goto-clause-fault t c =
    let v = ap view.statement c.in-Goto.is ∙ goto_seen c.in-Goto.span c.in-Goto.names in
    rw (v, ← c.deref-in-Goto.ensures.value) (c.goto.ensures.fault c.args.walk.now.loops.items (label_by c.args.before))

pub statement-returns-in-Break-clause-ok : goal.statement-returns-in-Break-clause-ok
statement-returns-in-Break-clause-ok t c =
    let v = ap view.statement c.in-Break.is ∙ break_seen c.in-Break.span c.in-Break.label in
    rw (v, ← c.deref-in-Break.ensures.value) c.break_out.ensures.ok

pub statement-returns-in-Break-clause-fault : goal.statement-returns-in-Break-clause-fault
statement-returns-in-Break-clause-fault t c =
    let v = ap view.statement c.in-Break.is ∙ break_seen c.in-Break.span c.in-Break.label in
    rw (v, ← c.deref-in-Break.ensures.value) (MatchResult-weaker c.break_out.result c.break_out.ensures.fault (λ x h. h) (λ f h. fault_in_break _ _ _ _ _ h))

pub statement-returns-in-Label-clause-ok : goal.statement-returns-in-Label-clause-ok
statement-returns-in-Label-clause-ok t c =
    let v = ap view.statement c.in-Label.is ∙ label_seen c.in-Label.name in
    rw v c.label.ensures.ok

pub statement-returns-in-Label-clause-fault : goal.statement-returns-in-Label-clause-fault
statement-returns-in-Label-clause-fault t c =
    let v = ap view.statement c.in-Label.is ∙ label_seen c.in-Label.name in
    rw v (c.label.ensures.fault c.args.walk.now.loops.items (label_by c.args.before))

pub statement-returns-in-Assign-clause-ok : goal.statement-returns-in-Assign-clause-ok
statement-returns-in-Assign-clause-ok t c =
    let v = ap view.statement c.in-Assign.is ∙ assign_seen c.in-Assign.span c.in-Assign.names c.in-Assign.values in
    rw (v, ← c.deref-in-Assign.ensures.value, ← c.deref-in-Assign-2.ensures.value) c.assign.ensures.ok

pub statement-returns-in-Assign-clause-fault : goal.statement-returns-in-Assign-clause-fault
statement-returns-in-Assign-clause-fault t c =
    let v = ap view.statement c.in-Assign.is ∙ assign_seen c.in-Assign.span c.in-Assign.names c.in-Assign.values in
    rw (v, ← c.deref-in-Assign.ensures.value, ← c.deref-in-Assign-2.ensures.value)
    (c.assign.ensures.fault c.args.walk.now.loops.items (label_by c.args.before))

pub statement-returns-in-If-clause-ok : goal.statement-returns-in-If-clause-ok
statement-returns-in-If-clause-ok t c =
    let v = ap view.statement c.in-If.is ∙ if_seen c.in-If.span c.in-If.cond c.in-If.then c.in-If.otherwise in
    rw (v, ← c.deref-in-If.ensures.value, ← c.deref-in-If-2.ensures.value) c.put_branches.ensures.ok

pub statement-returns-in-If-clause-hidden : goal.statement-returns-in-If-clause-hidden
statement-returns-in-If-clause-hidden t c =
    let v = ap view.statement c.in-If.is ∙ if_seen c.in-If.span c.in-If.cond c.in-If.then c.in-If.otherwise in
    rw (v, ← c.deref-in-If.ensures.value, ← c.deref-in-If-2.ensures.value) c.put_branches.ensures.hidden

pub statement-returns-in-If-clause-fault : goal.statement-returns-in-If-clause-fault
statement-returns-in-If-clause-fault t c =
    let v = ap view.statement c.in-If.is ∙ if_seen c.in-If.span c.in-If.cond c.in-If.then c.in-If.otherwise in
    rw (v, ← c.deref-in-If.ensures.value, ← c.deref-in-If-2.ensures.value) (c.put_branches.ensures.fault (label_by c.args.before))

pub statement-returns-in-While-clause-ok : goal.statement-returns-in-While-clause-ok
statement-returns-in-While-clause-ok t c =
    let v = ap view.statement c.in-While.is ∙ while_seen c.in-While.span c.in-While.cond c.in-While.conditions c.in-While.body in
    rw (v, ← c.deref-in-While.ensures.value, ← c.deref-in-While-2.ensures.value) c.looped.ensures.ok

pub statement-returns-in-While-clause-hidden : goal.statement-returns-in-While-clause-hidden
statement-returns-in-While-clause-hidden t c =
    let v = ap view.statement c.in-While.is ∙ while_seen c.in-While.span c.in-While.cond c.in-While.conditions c.in-While.body in
    rw (v, ← c.deref-in-While.ensures.value, ← c.deref-in-While-2.ensures.value) c.looped.ensures.hidden

pub statement-returns-in-While-clause-fault : goal.statement-returns-in-While-clause-fault
statement-returns-in-While-clause-fault t c =
    let v = ap view.statement c.in-While.is ∙ while_seen c.in-While.span c.in-While.cond c.in-While.conditions c.in-While.body in
    rw (v, ← c.deref-in-While.ensures.value, ← c.deref-in-While-2.ensures.value) c.looped.ensures.fault

pub put_branches-returns-in_err-cond-clause-fault : goal.put_branches-returns-in_err-cond-clause-fault
put_branches-returns-in_err-cond-clause-fault t c =
    let p = err_from_is_err_and c.from_residual.result c.from_residual.ensures.1 in
    λ before. rw (p.1, p.2) (fault_in_branch _ _ _ _ _ _ _ c.in_err-cond.ensures.fault)

pub put_branches-returns-in_err-first-clause-fault : goal.put_branches-returns-in_err-first-clause-fault
put_branches-returns-in_err-first-clause-fault t c =
    let p = err_from_is_err_and c.from_residual-in_err-first.result c.from_residual-in_err-first.ensures.1 in
    λ before. rw (p.1, p.2) (fault_in_then _ _ _ _ _ _ _ c.in_err-first.ensures.fault)

pub put_branches-returns-in_err-second-clause-fault : goal.put_branches-returns-in_err-second-clause-fault
put_branches-returns-in_err-second-clause-fault t c =
    let p = err_from_is_err_and c.from_residual-in_err-second.result c.from_residual-in_err-second.ensures.1 in
    λ before. rw (p.1, p.2) (fault_in_else _ _ _ _ _ _ _ (subst (λ ls. IsBlockFault (place_at c.args.place.now ls) None (view.statements c.args.otherwise.now) c.in_err-second.field-0.0) c.in_ok-first.ensures.loops c.in_err-second.ensures.fault))

pub looped-returns-in_err-cond-clause-fault : goal.looped-returns-in_err-cond-clause-fault
looped-returns-in_err-cond-clause-fault t c =
    let p = err_from_is_err_and c.from_residual.result c.from_residual.ensures.1 in
    rw (p.1, p.2) (fault_in_loop _ _ _ _ _ _ _ c.in_err-cond.ensures.fault)

pub looped-returns-in_err-conditions-clause-fault : goal.looped-returns-in_err-conditions-clause-fault
looped-returns-in_err-conditions-clause-fault t c =
    let p = err_from_is_err_and c.from_residual-in_err-conditions.result c.from_residual-in_err-conditions.ensures.1 in
    rw (p.1, p.2) (fault_in_invariant _ _ _ _ _ _ _ c.in_err-conditions.ensures.fault)

pub looped-returns-in_err-inside-clause-fault : goal.looped-returns-in_err-inside-clause-fault
looped-returns-in_err-inside-clause-fault t c =
    let p = err_from_is_err_and c.from_residual-in_err-inside.result c.from_residual-in_err-inside.ensures.1 in
    rw (p.1, p.2) (fault_in_body _ _ _ _ _ _ _ (subst (λ ls. IsBlockFault (place_at c.args.place.now ls) None (view.statements c.args.body.now) c.in_err-inside.field-0.0) c.in_ok-enter.ensures.ok c.in_err-inside.ensures.fault))

pub looped-returns-clause-hidden : goal.looped-returns-clause-hidden
looped-returns-clause-hidden t c =
    let h = c.in_ok-inside.ensures.hidden in
    let a = block_anywhere (place_at c.args.place.now c.args.walk.now.loops.items) (loops_by c.enter.new.loops.items) (view.statements c.args.body.now) in
    on_ok_weaker c.put.result (λ u. h ∙ ap (λ (k : ℕ). c.args.walk.now.hidden + k) a) c.put.ensures.ok

pub statement-returns-in-Call-clause-fault : goal.statement-returns-in-Call-clause-fault
statement-returns-in-Call-clause-fault t c =
    let v = ap view.statement c.in-Call.is ∙ call_seen c.in-Call.span c.in-Call.names c.in-Call.callee c.in-Call.arguments in
    rw (v, ← c.deref-in-Call.ensures.value, ← c.deref-in-Call-2.ensures.value)
    (MatchResult-weaker c.call_inside.result c.call_inside.ensures.fault (λ x h. h) (λ f h. fault_in_call _ _ _ _ _ _ f h))

pub block-statement-requires : goal.block-statement-requires
block-statement-requires t c =
    let w = member_weight c.args.statements.now _ _ c.loop-each-test.true c.each-item.is in let d = c.decreases in (omega arith, tt)

pub block-returns-in_err-statement-clause-fault : goal.block-returns-in_err-statement-clause-fault
block-returns-in_err-statement-clause-fault t c =
    let p = err_from_is_err_and c.from_residual.result c.from_residual.ensures.1 in
    let place = place_at c.args.place.now c.args.walk.now.loops.items in
    rw (p.1, p.2)
    (or_memory_to c.in_err-statement.field-0.0
    (fault_turn place c.args.statements.now c.loop-each.each-index c.each-item.result c.loop-each-test.true c.each-item.is (label_by c.loop-each.before)
    (λ f. IsMisnamedIn place None (view.statements c.args.statements.now) f) c.loop-each.invariant.faults c.in_err-statement.field-0.0)
    (subst (λ ls. IsStatementFault (place_at c.args.place.now ls) (label_by c.loop-each.before) (view.statement c.each-item.result) c.in_err-statement.field-0.0)
    c.loop-each.invariant.loops c.in_err-statement.ensures.fault))

pub block-loop-each-preserved : goal.block-loop-each-preserved
block-loop-each-preserved t c =
    let place = place_at c.args.place.now c.args.walk.now.loops.items in
    let stmts = c.args.statements.now in
    let i = c.loop-each.each-index in
    let x = c.each-item.result in
    let made = subst (λ ls. made (map typed.statement c.loop-each.out.items) (named_statement (place_at c.args.place.now ls) (label_by c.loop-each.before) c.loop-each.walk.hidden (view.statement x)) ≡ Some (map typed.statement c.statement.new.out.items))
    c.loop-each.invariant.loops c.in_ok-statement.ensures.ok in
    let hidden = subst (λ ls. c.statement.new.walk.hidden ≡ c.loop-each.walk.hidden + hidden_in (place_at c.args.place.now ls) (view.statement x)) c.loop-each.invariant.loops c.in_ok-statement.ensures.hidden in
    record {
      made = block_turn place stmts i x c.loop-each-test.true c.each-item.is _ _ _ _ _ _ _ made hidden c.label_before-before.ensures c.loop-each.invariant.made;
      hidden = hidden_turn place stmts i x c.loop-each-test.true c.each-item.is _ _ _ hidden c.loop-each.invariant.hidden;
      loops = c.in_ok-statement.ensures.loops ∙ c.loop-each.invariant.loops;
      faults = faults_turn place stmts i x c.loop-each-test.true c.each-item.is _ _ (λ f. IsMisnamedIn place None (view.statements stmts) f) c.label_before-before.ensures c.loop-each.invariant.faults;
    }

pub block-returns-clause-ok : goal.block-returns-clause-ok
block-returns-clause-ok t c =
    let place = place_at c.args.place.now c.args.walk.now.loops.items in
    let e : drop c.loop-each.each-index c.args.statements.now ≡ [] = drop_all c.loop-each.each-index c.args.statements.now c.loop-each-test.false in
    sym c.loop-each.invariant.made
    ∙ ap (λ ss. block_made (map typed.statement c.loop-each.out.items) (named_block place (label_by c.loop-each.before) c.loop-each.walk.hidden (view.statements ss))) e
    ∙ block_end (map typed.statement c.loop-each.out.items)
