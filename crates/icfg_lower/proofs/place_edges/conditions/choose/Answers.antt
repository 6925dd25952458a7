use Rattle.std.proofs.Common.{ℕ, ◌+◌, length, sym, subst}
use Rattle.letter_acts.specs.Frames.{Columns}
use Rattle.typed_tree.specs.TypedTree.{TypedExpression, TypedProgram}
use Rattle.typed_tree.specs.TypedView.{expression}
use Rattle.typed_tree.specs.TypingRules.TypedParts.{typed_program}
use Rattle.cond_jumps.specs.FreeProducts.FrameLetters.{freed_path_plan, path_letters, product_count}
use Rattle.lowered_graph.specs.Items.{Needed, path_needed}
use Rattle.lowered_graph.proofs.EdgeActs.{wide_length}
use Rattle.lowered_graph.specs.LoweredSteps.Edges.{local_count}
use Rattle.lowered_graph.specs.LoweredSteps.ProgramFrames.{frame_at}
use Rattle.icfg_lower.specs.PlaceEdges.Ties.Answered.{IsAnswer}
use Rattle.icfg_lower.proofs.PlaceEdges.FrameConstants.{forms_by, frame_constants}
use Rattle.icfg_lower.proofs.PlaceEdges.LeadLemmas.{answered, at_frame}
use Rattle.icfg_lower.proofs.place_edges.conditions.choose.Goals as goal

pub free_paths-answer-requires-clause-constants : goal.free_paths-answer-requires-clause-constants
free_paths-answer-requires-clause-constants c =
    frame_constants (typed_program c.args.lowering.now.parts) c.args.here.proc c.frame.result.now.columns.items c.globals.result.now c.frame.ensures c.globals.ensures

pub free_paths-answer-requires-clause-fit : goal.free_paths-answer-requires-clause-fit
free_paths-answer-requires-clause-fit c =
    forms_by (typed_program c.args.lowering.now.parts) c.globals.result.now (expression c.args.cond.now) c.globals.ensures c.requires.fit

pub returns : goal.returns
returns c =
    let e = c.free_paths-answer.ensures in
    let t : TypedProgram = typed_program c.args.lowering.now.parts in
    let f : Columns = c.frame.result.now.columns.items in
    let m : ℕ = c.local_count.result in
    let cond : TypedExpression = expression c.args.cond.now in
    let needed : ℕ → Needed = λ n. record { plan = freed_path_plan f m cond c.args.want; base = n } in
    let P : Columns → ℕ → Type 0 = λ g k. IsAnswer (path_letters g k cond c.args.want) (path_needed g k cond c.args.want) c.free_paths-answer.result in
    let found : P f m =
    subst (λ (n : ℕ). IsAnswer (path_letters f m cond c.args.want) (needed n) c.free_paths-answer.result) (sym (wide_length f m (product_count f cond)))
    (answered (path_letters f m cond c.args.want) (needed (length f + product_count f cond)) c.free_paths-answer.result e.list e.narrow e.fits e.too_wide e.too_big) in
    c.lead_by.ensures _ _ (at_frame P f (frame_at t c.args.here.proc) m (local_count t c.args.here.proc) c.frame.ensures c.local_count.ensures found)
