use Rattle.std.proofs.Common.{◌∙◌, ℕ, List, map, ap, subst}
use Rattle.boogie_tree.specs.declared.tree.VarInfo.{VarInfo}
use Rattle.letter_acts.specs.Frames.{Columns}
use Rattle.typed_tree.specs.TypedTree.{TypedExpression, TypedProcedure}
use Rattle.typed_tree.specs.TypedView.{expression, procedure}
use Rattle.typed_tree.specs.TypingRules.TypedParts.{typed_program}
use Rattle.cond_jumps.specs.FreeProducts.LetterView.{all_marked}
use Rattle.lowered_graph.specs.LoweredSteps.ProgramFrames.{frame_at}
use Rattle.lowered_graph.specs.LoweredSteps.Edges.{import_letters, import_written, local_count, numbers_in}
use Rattle.lowered_graph.specs.LoweredParts.Lists.{list_arcs}
use Rattle.icfg_lower.specs.PlaceEdges.Ties.Answered.{IsRefused, ensures_needed}
use Rattle.icfg_lower.specs.PlaceEdges.WalkedParts.{walked}
use Rattle.icfg_lower.proofs.PlaceEdges.LeadLemmas.{import_led, told_refused}
use Rattle.icfg_lower.proofs.place_edges.calls.import.Goals as goal

pub returns-in-Ok : goal.returns-in-Ok
returns-in-Ok c =
    let frame : Columns = frame_at (typed_program c.args.lowering.now.parts) c.args.here.proc in
    import_led c.args.here.proc c.args.here.place c.args.after frame (local_count (typed_program c.args.lowering.now.parts) c.args.here.proc) c.args.lowering.now.parts.globals (procedure c.args.callee.now) (map expression c.args.called.args.now)
    c.deref.result.now (numbers_in frame c.args.called.targets.now) c.deref-in-Ok.result.now (all_marked c.in-Ok.made.conjs.items)
    (walked c.args.lowering.now) (walked c.lead.new.self)
    (c.deref.ensures.value ∙ c.in_ok-targets.ensures c.args.here.proc c.requires.targets) (c.deref-in-Ok.ensures.value ∙ c.in-Ok.ensures.0) c.in-Ok.ensures.1 c.in-Ok.ensures.2
    (ap walked c.in_ok-lead-in-Ok.ensures)

pub returns : goal.returns
returns c =
    let frame : Columns = frame_at (typed_program c.args.lowering.now.parts) c.args.here.proc in
    let m : ℕ = local_count (typed_program c.args.lowering.now.parts) c.args.here.proc in
    let globals : List VarInfo = c.args.lowering.now.parts.globals in
    let q : TypedProcedure = procedure c.args.callee.now in
    let args : List TypedExpression = map expression c.args.called.args.now in
    let ts : List ℕ = numbers_in frame c.args.called.targets.now in
    told_refused (list_arcs c.args.here.proc c.args.here.place (import_written q.modifies ts) (import_letters frame m globals q args ts) c.args.after)
    (ensures_needed frame m globals q args ts) c.in-Err.fault c.told.result (walked c.args.lowering.now)
    (subst (λ (us : List ℕ). IsRefused (ensures_needed frame m globals q args us) c.in-Err.fault)
    (c.deref.ensures.value ∙ c.in_ok-targets.ensures c.args.here.proc c.requires.targets) c.in-Err.ensures)
    c.told.ensures
