use Rattle.std.proofs.Common.{◌≡◌, ◌∙◌, ◌+◌, [], ◌∷◌, ◌++◌, List, map, drop, length, ap, sym, arith, append-nil}
use Rattle.std.proofs.lemmas.List.{at_drop_all, length-map}
use Rattle.typed_tree.specs.declared.types.TStmt.{TStmt}
use Rattle.typed_tree.specs.TypedTree.{TypedStatement}
use Rattle.typed_tree.specs.TypedView as view
use Rattle.boogie_run.proofs.BoogiePoints.SeekLaws.{if_seen, while_seen}
use Rattle.trace_replay.specs.ToldChoices.Kinds.{PlainKind}
use Rattle.trace_replay.specs.ToldChoices.Ties.Walks.{silent, statement_kinds, block_kinds}
use Rattle.trace_replay.specs.ToldChoices.Ties.Views.{plain_kind, plain_kinds}
use Rattle.trace_replay.proofs.ToldSites.{if_ok}
use Rattle.trace_replay.proofs.ToldChoices.Steps.{two_steps}
use Rattle.trace_replay.proofs.ToldChoices.Turns.{turn}
use Rattle.trace_replay.proofs.told_choices.statements.+statements.Goals as goal

pub add_block-loop-statement-preserved : goal.add_block-loop-statement-preserved
add_block-loop-statement-preserved t c =
    let F : List TStmt → List PlainKind = λ ss. block_kinds (map view.procedure c.args.procs.now) c.args.frame.now (view.statements ss) in
    turn F c.args.listed.now c.loop-statement.statement-index c.statement-item.result (plain_kinds c.loop-statement.kinds.items) (plain_kinds c.add_statement.new.kinds.items) _
    (statement_kinds (map view.procedure c.args.procs.now) c.args.frame.now (view.statement c.statement-item.result)) c.loop-statement-test.true
    (ap (λ (s : TStmt). F (s ∷ drop (c.loop-statement.statement-index + 1) c.args.listed.now)) (sym c.statement-item.is)) c.in_ok-add_statement.ensures c.loop-statement.invariant

pub add_block-returns : goal.add_block-returns
add_block-returns t c =
    let F : List TStmt → List PlainKind = λ ss. block_kinds (map view.procedure c.args.procs.now) c.args.frame.now (view.statements ss) in
    sym (append-nil (plain_kinds c.loop-statement.kinds.items))
    ∙ sym (at_drop_all (λ (ss : List TStmt). plain_kinds c.loop-statement.kinds.items ++ F ss) c.args.listed.now c.loop-statement.statement-index c.loop-statement-test.false)
    ∙ c.loop-statement.invariant

pub add_statement-returns-in_ok-add_block-in-If : goal.add_statement-returns-in_ok-add_block-in-If
add_statement-returns-in_ok-add_block-in-If t c =
    let F : List TStmt → List PlainKind = λ ss. block_kinds (map view.procedure c.args.procs.now) c.args.frame.now (view.statements ss) in
    let old : List PlainKind = plain_kinds c.args.kinds.now.items in
    let one : List PlainKind = plain_kinds c.add.new.kinds.items in
    let kind : List PlainKind = plain_kind c.guard_kind.result ∷ [] in
    let then : List PlainKind = F c.deref-in-If.result.now in
    let otherwise : List PlainKind = F c.deref-in-If-2.result.now in
    if_ok _ _ c.add_block-in-If.result
    (λ x so.
    two_steps old one (plain_kinds c.add_block-in-If.new.kinds.items) kind (then ++ otherwise) c.in_ok-add-in-If.ensures
    (two_steps one (plain_kinds c.add_block.new.kinds.items) (plain_kinds c.add_block-in-If.new.kinds.items) then otherwise c.in_ok-add_block-in-If.ensures so)
    ∙ (λ i. old ++ (c.guard_kind.ensures i ∷ (F (c.deref-in-If.ensures.value i) ++ F (c.deref-in-If-2.ensures.value i))))
    ∙ ap (λ (s : TypedStatement). old ++ statement_kinds (map view.procedure c.args.procs.now) c.args.frame.now s)
    (sym (ap view.statement c.in-If.is ∙ if_seen c.in-If.field-0 c.in-If.guard c.in-If.then c.in-If.otherwise)))
    c.add_block-in-If.ensures

pub add_statement-returns-in_ok-add-in-While : goal.add_statement-returns-in_ok-add-in-While
add_statement-returns-in_ok-add-in-While t c =
    let F : List TStmt → List PlainKind = λ ss. block_kinds (map view.procedure c.args.procs.now) c.args.frame.now (view.statements ss) in
    let old : List PlainKind = plain_kinds c.args.kinds.now.items in
    let two : List PlainKind = plain_kinds c.add-in-While.new.kinds.items in
    let head : List PlainKind = silent c.len.result ++ plain_kind c.guard_kind-in-While.result ∷ [] in
    let count : c.len.result ≡ length c.in-While.conditions.items = omega arith in
    let many : c.len.result ≡ length (map view.invariant c.in-While.conditions.items) = count ∙ sym (length-map c.in-While.conditions.items view.invariant) in
    if_ok _ _ c.add_block-in-While.result
    (λ x so.
    two_steps old two (plain_kinds c.add_block-in-While.new.kinds.items) head (F c.deref-in-While.result.now)
    (two_steps old (plain_kinds c.add_silent.new.kinds.items) two (silent c.len.result) (plain_kind c.guard_kind-in-While.result ∷ []) c.in_ok-add_silent-in-While.ensures c.in_ok-add-in-While.ensures) so
    ∙ (λ i. old ++ ((silent (many i) ++ c.guard_kind-in-While.ensures i ∷ []) ++ F (c.deref-in-While.ensures.value i)))
    ∙ ap (λ (s : TypedStatement). old ++ statement_kinds (map view.procedure c.args.procs.now) c.args.frame.now s)
    (sym (ap view.statement c.in-While.is ∙ while_seen c.in-While.field-0 c.in-While.guard c.in-While.conditions c.in-While.body)))
    c.add_block-in-While.ensures
