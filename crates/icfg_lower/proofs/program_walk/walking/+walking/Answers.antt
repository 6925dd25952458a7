use Rattle.std.proofs.Common.{◌≡◌, ◌∙◌, ◌+◌, ℕ, List, sym, ap, subst, map, drop}
use Rattle.std.specs.Prelude.{OnOk}
use Rattle.typed_tree.specs.declared.types.TInv.{TInv}
use Rattle.typed_tree.specs.declared.types.TStmt.{TStmt}
use Rattle.typed_tree.specs.TypedView as view
use Rattle.typed_tree.specs.TypedTree.{TypedStatement, TypedBlock, Then, TypedProcedure, TypedProgram, If, While}
use Rattle.typed_tree.specs.TypingRules.Counts.{assertions, points}
use Rattle.typed_tree.specs.TypingRules.TypedParts.{TypedParts, typed_program}
use Rattle.lowered_graph.specs.LoweredSteps.ProgramFrames.{frame_at}
use Rattle.icfg_lower.specs.PlaceEdges.WalkedParts.{walked}
use Rattle.icfg_lower.specs.ProgramWalk.Ties.Bounds.{BlockFits}
use Rattle.icfg_lower.specs.ProgramWalk.Ties.Walks.{StatementAdds, BlockAdds}
use Rattle.icfg_lower.proofs.ProgramWalk.LoopSteps.{on_ok}
use Rattle.icfg_lower.proofs.ProgramWalk.Seen.{if_seen, while_seen}
use Rattle.icfg_lower.proofs.ProgramWalk.WalkSteps as step
use Rattle.icfg_lower.proofs.program_walk.walking.+walking.Goals as goal

pub block-returns-clause-added : goal.block-returns-clause-added
block-returns-clause-added t c =
    step.block_ends (typed_program c.args.lowering.now.parts) c.args.body.now.proc c.args.body.now.exit c.args.body.now.labels.items c.args.loops.now.items c.args.after (view.statements c.args.list.now) c.args.from.assertion c.args.from.place
    c.args.list.now c.loop-number.number c.loop-number.here.assertion c.loop-number.here.place (walked c.args.lowering.now) (walked c.loop-number.lowering) c.loop-number-test.false c.loop-number.invariant.left

pub block-loop-number-preserved : goal.block-loop-number-preserved
block-loop-number-preserved t c =
    let program : typed_program c.loop-number.lowering.parts ≡ typed_program c.args.lowering.now.parts = c.loop-number.invariant.program in
    let procs : map view.procedure c.procs.result.now ≡ (typed_program c.args.lowering.now.parts).procs =
    ap (map view.procedure) (c.procs.ensures ∙ ap (λ (x : TypedParts). x.procs) (c.program.ensures.value ∙ c.layout.ensures)) ∙ ap (λ (x : TypedProgram). x.procs) program in
    let first : TypedStatement = view.statement c.index-list-number.result in
    let rest : TypedBlock = view.statements (drop (c.loop-number.number + 1) c.args.list.now) in
    let place : c.behind-behind.result.place ≡ c.loop-number.here.place + points (typed_program c.args.lowering.now.parts).procs first =
    c.behind-behind.ensures.place ∙ ap (λ (ps : List TypedProcedure). c.loop-number.here.place + points ps first) procs in
    let assertion : c.behind-behind.result.assertion ≡ c.loop-number.here.assertion + assertions (typed_program c.args.lowering.now.parts).procs first =
    c.behind-behind.ensures.assertion ∙ ap (λ (ps : List TypedProcedure). c.loop-number.here.assertion + assertions ps first) procs in
    let fits : BlockFits (typed_program c.args.lowering.now.parts) (frame_at (typed_program c.args.lowering.now.parts) c.args.body.now.proc) (Then first rest) c.loop-number.here.assertion c.loop-number.here.place =
    subst (λ (b : TypedBlock). BlockFits (typed_program c.args.lowering.now.parts) (frame_at (typed_program c.args.lowering.now.parts) c.args.body.now.proc) b c.loop-number.here.assertion c.loop-number.here.place)
    (step.read_next c.args.list.now c.loop-number.number c.index-list-number.result c.loop-number-test.true c.index-list-number.is) c.loop-number.invariant.fits in
    record {
      program = c.in_ok-statement.ensures.program ∙ program;
      around = c.in_ok-statement.ensures.loops ∙ c.loop-number.invariant.around;
      fits =
          step.rest_fits (typed_program c.args.lowering.now.parts) (frame_at (typed_program c.args.lowering.now.parts) c.args.body.now.proc) first rest c.loop-number.here.assertion c.loop-number.here.place
          c.behind-behind.result.assertion c.behind-behind.result.place assertion place fits;
      left =
          step.block_step (typed_program c.args.lowering.now.parts) (typed_program c.loop-number.lowering.parts) c.args.body.now.proc c.args.body.now.exit c.args.body.now.labels.items c.args.loops.now.items c.loop-number.loops.items
          c.args.after (view.statements c.args.list.now) c.args.from.assertion c.args.from.place c.args.list.now c.loop-number.number c.loop-number.here.assertion c.loop-number.here.place c.behind-behind.result.assertion
          c.behind-behind.result.place c.before_last_labels-before_last.result c.chosen-next.result c.index-list-number.result (walked c.args.lowering.now) (walked c.loop-number.lowering) (walked c.statement.new.lowering) program
          c.loop-number.invariant.around c.loop-number-test.true c.index-list-number.is c.before_last_labels-before_last.ensures place assertion c.chosen-next.ensures c.loop-number.invariant.left c.in_ok-statement.ensures.added;
    }

pub statement-returns-in_ok-block-in-If-clause-added : goal.statement-returns-in_ok-block-in-If-clause-added
statement-returns-in_ok-block-in-If-clause-added t c =
    on_ok _ _ c.block-in-If.result
    (λ h. subst
    (λ (s : TypedStatement). StatementAdds (typed_program c.args.lowering.now.parts) c.args.body.now.proc c.args.body.now.exit c.args.body.now.labels.items c.args.loops.now.items c.args.after s c.args.next.assertion c.args.next.place
    (walked c.args.lowering.now) (walked c.block-in-If.new.lowering))
    (ap (λ (b : List TStmt). If c.in-If.span (view.guard c.in-If.cond) (view.statements b) (view.statements c.deref-in-If.result.now)) c.deref.ensures.value
    ∙ ap (λ (b : List TStmt). If c.in-If.span (view.guard c.in-If.cond) (view.statements c.in-If.then.items) (view.statements b)) c.deref-in-If.ensures.value
    ∙ sym (ap view.statement c.in-If.is ∙ if_seen c.in-If.span c.in-If.cond c.in-If.then c.in-If.otherwise))
    (step.if_walked (typed_program c.args.lowering.now.parts) (typed_program c.fork.new.lowering.parts) (typed_program c.block.new.lowering.parts) c.args.body.now.proc c.args.body.now.exit c.args.body.now.labels.items c.args.loops.now.items
    c.block.new.loops.items c.args.after c.in-If.span (view.guard c.in-If.cond) (view.statements c.deref.result.now) (view.statements c.deref-in-If.result.now) c.args.next.assertion c.args.next.place
    c.in_ok-forked-in-If.forked.first.assertion c.in_ok-forked-in-If.forked.first.place c.in_ok-forked-in-If.forked.second.assertion c.in_ok-forked-in-If.forked.second.place
    (walked c.args.lowering.now) (walked c.fork.new.lowering) (walked c.block.new.lowering) (walked c.block-in-If.new.lowering) c.in_ok-forked-in-If.ensures.program
    (c.in_ok-block-in-If.ensures.program ∙ c.in_ok-forked-in-If.ensures.program) c.in_ok-block-in-If.ensures.loops c.in_ok-forked-in-If.ensures.then_assertion c.in_ok-forked-in-If.ensures.then_place
    c.in_ok-forked-in-If.ensures.else_numbers c.in_ok-forked-in-If.ensures.added
    (subst
    (λ (b : List TStmt). BlockAdds (typed_program c.fork.new.lowering.parts) c.args.body.now.proc c.args.body.now.exit c.args.body.now.labels.items c.args.loops.now.items c.args.after (view.statements b) c.in_ok-forked-in-If.forked.first.assertion
    c.in_ok-forked-in-If.forked.first.place (walked c.fork.new.lowering) (walked c.block.new.lowering))
    (c.deref-in-If-2.ensures.value ∙ sym c.deref.ensures.value) c.in_ok-block-in-If.ensures.added)
    (subst
    (λ (b : List TStmt). BlockAdds (typed_program c.block.new.lowering.parts) c.args.body.now.proc c.args.body.now.exit c.args.body.now.labels.items c.block.new.loops.items c.args.after (view.statements b) c.in_ok-forked-in-If.forked.second.assertion
    c.in_ok-forked-in-If.forked.second.place (walked c.block.new.lowering) (walked c.block-in-If.new.lowering))
    (c.deref-in-If-3.ensures.value ∙ sym c.deref-in-If.ensures.value) h)))
    c.block-in-If.ensures.added

pub statement-returns-in_ok-block-in-While-clause-added : goal.statement-returns-in_ok-block-in-While-clause-added
statement-returns-in_ok-block-in-While-clause-added t c =
    subst
    (λ (s : TypedStatement). StatementAdds (typed_program c.args.lowering.now.parts) c.args.body.now.proc c.args.body.now.exit c.args.body.now.labels.items c.args.loops.now.items c.args.after s c.args.next.assertion c.args.next.place
    (walked c.args.lowering.now) (walked c.block-in-While.new.lowering))
    (ap (λ (is : List TInv). While c.in-While.span (view.guard c.in-While.cond) (map view.invariant is) (view.statements c.deref-in-While-2.result.now)) c.deref-in-While.ensures.value
    ∙ ap (λ (b : List TStmt). While c.in-While.span (view.guard c.in-While.cond) (map view.invariant c.in-While.conditions.items) (view.statements b)) c.deref-in-While-2.ensures.value
    ∙ sym (ap view.statement c.in-While.is ∙ while_seen c.in-While.span c.in-While.cond c.in-While.conditions c.in-While.inner))
    (step.loop_walked (typed_program c.args.lowering.now.parts) (typed_program c.head.new.lowering.parts) c.args.body.now.proc c.args.body.now.exit c.args.body.now.labels.items c.args.loops.now.items c.push.new.self.items c.args.after
    c.in-While.span (view.guard c.in-While.cond) (map view.invariant c.deref-in-While.result.now) (view.statements c.deref-in-While-2.result.now) c.args.next.assertion c.args.next.place
    c.in_ok-first-in-While.first.assertion c.in_ok-first-in-While.first.place (walked c.args.lowering.now) (walked c.head.new.lowering) (walked c.block-in-While.new.lowering) c.in_ok-first-in-While.ensures.program
    c.in_ok-push-in-While.ensures.items c.in_ok-first-in-While.ensures.numbers c.in_ok-first-in-While.ensures.added
    (subst
    (λ (b : List TStmt). BlockAdds (typed_program c.head.new.lowering.parts) c.args.body.now.proc c.args.body.now.exit c.args.body.now.labels.items c.push.new.self.items c.args.next.place (view.statements b) c.in_ok-first-in-While.first.assertion
    c.in_ok-first-in-While.first.place (walked c.head.new.lowering) (walked c.block-in-While.new.lowering))
    (c.deref-in-While-3.ensures.value ∙ sym c.deref-in-While-2.ensures.value) c.in_ok-block-in-While.ensures.added))

pub statement-returns-in_default-clause-added : goal.statement-returns-in_default-clause-added
statement-returns-in_default-clause-added t c =
    subst
    (λ (ls : List ℕ). OnOk c.plain_statement.result (StatementAdds (typed_program c.args.lowering.now.parts) c.args.body.now.proc c.args.body.now.exit c.args.body.now.labels.items ls c.args.after (view.statement c.args.first.now)
    c.args.next.assertion c.args.next.place (walked c.args.lowering.now) (walked c.plain_statement.new.lowering)))
    c.deref-in_default.ensures.value c.plain_statement.ensures.added
