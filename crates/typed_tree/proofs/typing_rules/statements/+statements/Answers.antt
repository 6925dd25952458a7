use Rattle.std.proofs.Common.{◌≡◌, ℕ, ◌+◌, List, ap, map, sym, ◌∙◌, arith}
use Rattle.std.proofs.lemmas.Result.{err_from_is_err_and}
use Rattle.typed_tree.specs.declared.types.TStmt.{TStmt}
use Rattle.typed_tree.specs.TypedView as view
use Rattle.typed_tree.specs.declared.typing_rules.frame.Frame.{Frame}
use Rattle.typed_tree.specs.TypingRules.Rules.{is_block}
use Rattle.typed_tree.specs.TypingRules.Ties.Judged.{context}
use Rattle.typed_tree.proofs.TypingRules.StatementParts.{if_seen, while_seen, then_fault, if_judged, while_judged, each_fault, each_step, each_out}
use Rattle.typed_tree.proofs.TypingRules.LoopLaws.{left_end}
use Rattle.typed_tree.proofs.TypingRules.FrameLaws.{round_kept, list_kept}
use Rattle.typed_tree.proofs.typing_rules.statements.+statements.Goals as goal

pub each-returns-in_err-statement : goal.each-returns-in_err-statement
each-returns-in_err-statement t c =
    let p = err_from_is_err_and c.from_residual.result c.from_residual.ensures.1 in
    rw (p.1, p.2)
    (each_fault c.args.frame.now c.loop-checked.frame c.args.listed.now c.loop-checked.checked-index c.checked-item.result _
    c.loop-checked.invariant.same c.loop-checked-test.true c.checked-item.is c.loop-checked.invariant.broken c.in_err-statement.ensures)

pub each-loop-checked-preserved : goal.each-loop-checked-preserved
each-loop-checked-preserved t c = record {
  same = c.in_ok-statement.ensures.0 ∙ c.loop-checked.invariant.same;
  kept = each_step c.args.frame.now c.loop-checked.frame c.args.listed.now c.loop-checked.checked-index c.checked-item.result _
      c.loop-checked.invariant.same c.loop-checked-test.true c.checked-item.is c.loop-checked.invariant.kept c.in_ok-statement.ensures.1;
  broken = each_out c.args.frame.now c.args.listed.now c.loop-checked.checked-index c.checked-item.result
      c.loop-checked-test.true c.checked-item.is c.loop-checked.invariant.broken;
}

pub statement-returns-in_err-block-in-If : goal.statement-returns-in_err-block-in-If
statement-returns-in_err-block-in-If t c =
    let p = err_from_is_err_and c.from_residual-in_err-block-in-If.result c.from_residual-in_err-block-in-If.ensures.1 in
    rw (p.1, p.2)
    (then_fault (context c.args.frame.now) (view.statement c.args.checked.now) c.in-If.field-0 (view.guard c.in-If.field-1)
    (view.statements c.in-If.then.items) (view.statements c.deref.result.now) (view.statements c.in-If.otherwise.items) _
    (ap view.statement c.in-If.is ∙ if_seen c.in-If.field-0 c.in-If.field-1 c.in-If.then c.in-If.otherwise)
    (ap view.statements c.deref.ensures.value) c.in_err-block-in-If.ensures)

pub statement-returns-in_ok-block-in-If : goal.statement-returns-in_ok-block-in-If
statement-returns-in_ok-block-in-If t c =
    if_judged c.args.frame.now c.block.new.frame c.block-in-If.new.frame c.block-in-If.result (view.statement c.args.checked.now) c.in-If.field-0 (view.guard c.in-If.field-1)
    (view.statements c.in-If.then.items) (view.statements c.deref.result.now) (view.statements c.in-If.otherwise.items) (view.statements c.deref-in-If.result.now)
    (ap view.statement c.in-If.is ∙ if_seen c.in-If.field-0 c.in-If.field-1 c.in-If.then c.in-If.otherwise)
    (ap view.statements c.deref.ensures.value) (ap view.statements c.deref-in-If.ensures.value)
    c.in_ok-head.ensures c.in_ok-block-in-If.ensures.0 c.in_ok-block-in-If.ensures.1 c.block-in-If.ensures

pub statement-returns-in-While : goal.statement-returns-in-While
statement-returns-in-While t c =
    while_judged c.args.frame.now c.round.new.frame c.round.result (view.statement c.args.checked.now) c.in-While.field-0 (view.guard c.in-While.field-1)
    (map view.invariant c.in-While.field-2.items) (view.statements c.in-While.body.items) (view.statements c.deref-in-While.result.now)
    (ap view.statement c.in-While.is ∙ while_seen c.in-While.field-0 c.in-While.field-1 c.in-While.field-2 c.in-While.body)
    (ap view.statements c.deref-in-While.ensures.value) c.in_ok-head.ensures c.round.ensures

pub statement-returns-in_err-head : goal.statement-returns-in_err-head
statement-returns-in_err-head t c =
    let p = err_from_is_err_and c.from_residual.result c.from_residual.ensures.1 in
    rw (p.1, p.2) c.in_err-head.ensures

pub round-returns : goal.round-returns
round-returns t c =
    let k : Frame = c.args.frame.now in
    let e : c.in-Some.more ≡ k.loops + 1 = omega arith in
    round_kept k (record k { loops = c.in-Some.more }) c.block.new.frame (view.statements c.args.body.now) (ap (λ (n : ℕ). record k { loops = n }) e) c.in_ok-block.ensures.0
    c.in_ok-block.ensures.1

pub block-returns : goal.block-returns
block-returns t c =
    let k : Frame = c.args.frame.now in
    let m : Frame = c.each.new.frame in
    list_kept k (record k { labels = c.enter.new.self }) m (record m { labels = c.leave.new.self }) c.count-count.result (view.statements c.args.listed.now)
    c.count-count.ensures (ap (λ (ls : List ℕ). record k { labels = ls }) c.in_ok-enter.ensures) c.in_ok-each.ensures.0 c.in_ok-each.ensures.1
    (ap (λ (ls : List ℕ). record m { labels = ls }) c.leave.ensures)

pub each-returns : goal.each-returns
each-returns t c = (
  c.loop-checked.invariant.same,
  sym (left_end (λ (xs : List TStmt). is_block (context c.args.frame.now) (view.statements xs)) c.args.listed.now c.loop-checked.checked-index _ c.loop-checked-test.false c.loop-checked.invariant.kept),
)
