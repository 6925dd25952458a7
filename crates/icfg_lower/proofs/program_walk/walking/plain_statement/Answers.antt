use Rattle.std.proofs.Common.{◌∙◌, ℕ, List, refl, sym, ap, subst, map, length}
use Rattle.std.proofs.lemmas.List.{length-map}
use Rattle.boogie_tree.specs.declared.tree.Column.{Column}
use Rattle.typed_tree.specs.declared.types.TExpr.{TExpr}
use Rattle.typed_tree.specs.TypedView as view
use Rattle.typed_tree.specs.TypedTree.{TypedStatement, Havoc, Assign, Call, Goto}
use Rattle.typed_tree.specs.TypingRules.TypedParts.{typed_program}
use Rattle.icfg_lower.specs.PlaceEdges.WalkedParts.{walked}
use Rattle.icfg_lower.specs.ProgramWalk.Ties.Walks.{StatementAdds}
use Rattle.icfg_lower.proofs.ProgramWalk.LoopSteps.{on_ok}
use Rattle.icfg_lower.proofs.ProgramWalk.Seen.{assert_seen, assume_seen, havoc_seen, assign_seen, call_seen, goto_seen}
use Rattle.icfg_lower.proofs.ProgramWalk.WalkSteps as step
use Rattle.icfg_lower.proofs.program_walk.walking.plain_statement.Goals as goal

pub returns-in-Assert-clause-added : goal.returns-in-Assert-clause-added
returns-in-Assert-clause-added c =
    on_ok _ _ c.assert.result
    (λ h. subst
    (λ (s : TypedStatement). StatementAdds (typed_program c.args.lowering.now.parts) c.args.body.now.proc c.args.body.now.exit c.args.body.now.labels.items c.args.loops.now c.args.after s c.args.next.assertion c.args.next.place
    (walked c.args.lowering.now) (walked c.assert.new.lowering))
    (sym (ap view.statement c.in-Assert.is ∙ assert_seen c.in-Assert.span c.in-Assert.cond))
    (step.assert_adds (typed_program c.args.lowering.now.parts) c.args.body.now.proc c.args.body.now.exit c.args.body.now.labels.items c.args.loops.now c.args.after c.in-Assert.span (view.expression c.in-Assert.cond)
    c.args.next.assertion c.args.next.place (walked c.args.lowering.now) (walked c.assert.new.lowering) refl h))
    c.assert.ensures.item

pub returns-in-Assume-clause-added : goal.returns-in-Assume-clause-added
returns-in-Assume-clause-added c =
    on_ok _ _ c.assume.result
    (λ h. subst
    (λ (s : TypedStatement). StatementAdds (typed_program c.args.lowering.now.parts) c.args.body.now.proc c.args.body.now.exit c.args.body.now.labels.items c.args.loops.now c.args.after s c.args.next.assertion c.args.next.place
    (walked c.args.lowering.now) (walked c.assume.new.lowering))
    (sym (ap view.statement c.in-Assume.is ∙ assume_seen c.in-Assume.span c.in-Assume.cond))
    (step.assume_adds (typed_program c.args.lowering.now.parts) c.args.body.now.proc c.args.body.now.exit c.args.body.now.labels.items c.args.loops.now c.args.after c.in-Assume.span (view.expression c.in-Assume.cond)
    c.args.next.assertion c.args.next.place (walked c.args.lowering.now) (walked c.assume.new.lowering) refl h))
    c.assume.ensures.item

pub returns-in-Havoc-clause-added : goal.returns-in-Havoc-clause-added
returns-in-Havoc-clause-added c =
    on_ok _ _ c.havoc.result
    (λ h. subst
    (λ (s : TypedStatement). StatementAdds (typed_program c.args.lowering.now.parts) c.args.body.now.proc c.args.body.now.exit c.args.body.now.labels.items c.args.loops.now c.args.after s c.args.next.assertion c.args.next.place
    (walked c.args.lowering.now) (walked c.havoc.new.lowering))
    (ap (λ (cs : List Column). Havoc c.in-Havoc.field-0 cs) c.deref.ensures.value ∙ sym (ap view.statement c.in-Havoc.is ∙ havoc_seen c.in-Havoc.field-0 c.in-Havoc.columns))
    (step.plainly (typed_program c.args.lowering.now.parts) c.args.body.now.proc c.args.body.now.exit c.args.body.now.labels.items c.args.loops.now c.args.after (Havoc c.in-Havoc.field-0 c.deref.result.now)
    c.args.next.assertion c.args.next.place (walked c.args.lowering.now) (walked c.havoc.new.lowering) (h c.in-Havoc.field-0 c.args.next.assertion)))
    c.havoc.ensures.added

pub returns-in-Assign-clause-added : goal.returns-in-Assign-clause-added
returns-in-Assign-clause-added c =
    on_ok _ _ c.assign.result
    (λ h. subst
    (λ (s : TypedStatement). StatementAdds (typed_program c.args.lowering.now.parts) c.args.body.now.proc c.args.body.now.exit c.args.body.now.labels.items c.args.loops.now c.args.after s c.args.next.assertion c.args.next.place
    (walked c.args.lowering.now) (walked c.assign.new.lowering))
    (ap (λ (cs : List Column). Assign c.in-Assign.span cs (map view.expression c.deref-in-Assign-2.result.now)) c.deref-in-Assign.ensures.value
    ∙ ap (λ (es : List TExpr). Assign c.in-Assign.span c.in-Assign.targets.items (map view.expression es)) c.deref-in-Assign-2.ensures.value
    ∙ sym (ap view.statement c.in-Assign.is ∙ assign_seen c.in-Assign.span c.in-Assign.targets c.in-Assign.values))
    (step.assign_adds (typed_program c.args.lowering.now.parts) c.args.body.now.proc c.args.body.now.exit c.args.body.now.labels.items c.args.loops.now c.args.after c.in-Assign.span c.deref-in-Assign.result.now (map view.expression c.deref-in-Assign-2.result.now)
    c.args.next.assertion c.args.next.place (length c.deref-in-Assign-2.result.now) (walked c.args.lowering.now) (walked c.assign.new.lowering) refl (sym (length-map c.deref-in-Assign-2.result.now view.expression)) h))
    c.assign.ensures.item

pub returns-in-Call-clause-added : goal.returns-in-Call-clause-added
returns-in-Call-clause-added c =
    on_ok _ _ c.call.result
    (λ h. subst
    (λ (s : TypedStatement). StatementAdds (typed_program c.args.lowering.now.parts) c.args.body.now.proc c.args.body.now.exit c.args.body.now.labels.items c.args.loops.now c.args.after s c.args.next.assertion c.args.next.place
    (walked c.args.lowering.now) (walked c.call.new.lowering))
    (ap (λ (cs : List Column). Call c.in-Call.span cs c.in-Call.callee (map view.expression c.deref-in-Call-2.result.now)) c.deref-in-Call.ensures.value
    ∙ ap (λ (es : List TExpr). Call c.in-Call.span c.in-Call.targets.items c.in-Call.callee (map view.expression es)) c.deref-in-Call-2.ensures.value
    ∙ sym (ap view.statement c.in-Call.is ∙ call_seen c.in-Call.span c.in-Call.targets c.in-Call.callee c.in-Call.args))
    (step.plainly (typed_program c.args.lowering.now.parts) c.args.body.now.proc c.args.body.now.exit c.args.body.now.labels.items c.args.loops.now c.args.after (Call c.in-Call.span c.deref-in-Call.result.now c.in-Call.callee (map view.expression c.deref-in-Call-2.result.now))
    c.args.next.assertion c.args.next.place (walked c.args.lowering.now) (walked c.call.new.lowering) h))
    c.call.ensures.added

pub returns-in-Goto-clause-added : goal.returns-in-Goto-clause-added
returns-in-Goto-clause-added c =
    on_ok _ _ c.jump.result
    (λ h. subst
    (λ (s : TypedStatement). StatementAdds (typed_program c.args.lowering.now.parts) c.args.body.now.proc c.args.body.now.exit c.args.body.now.labels.items c.args.loops.now c.args.after s c.args.next.assertion c.args.next.place
    (walked c.args.lowering.now) (walked c.jump.new.lowering))
    (ap (λ (ks : List ℕ). Goto c.in-Goto.field-0 ks) c.deref-in-Goto.ensures.value ∙ sym (ap view.statement c.in-Goto.is ∙ goto_seen c.in-Goto.field-0 c.in-Goto.labels))
    (h c.in-Goto.field-0 c.args.next.assertion c.args.after c.args.loops.now))
    c.jump.ensures.added
