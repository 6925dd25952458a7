use Rattle.std.proofs.Common.{ℕ, List, map, sym, subst}
use Rattle.letter_acts.specs.Frames.{Columns}
use Rattle.typed_tree.specs.TypedTree.{TypedExpression, TypedProgram}
use Rattle.typed_tree.specs.TypedView.{expression}
use Rattle.typed_tree.specs.TypingRules.TypedParts.{typed_program}
use Rattle.cond_jumps.specs.Frames.{fixed_in}
use Rattle.cond_jumps.specs.FreeProducts.FrameLetters.{passed_count, passed_letters, told_condition}
use Rattle.lowered_graph.specs.LoweredSteps.Edges.{local_count}
use Rattle.lowered_graph.specs.LoweredSteps.ProgramFrames.{frame_at}
use Rattle.lowered_graph.specs.Items.{Needed, passed_needed}
use Rattle.lowered_graph.proofs.EdgeActs.{wide_length}
use Rattle.icfg_lower.specs.CallJumps.CallLists.{demand_base, demand_plan}
use Rattle.icfg_lower.specs.PlaceEdges.Ties.Answered.{IsAnswer}
use Rattle.icfg_lower.proofs.PlaceEdges.FrameConstants.{all_forms_by, forms_by, frame_constants}
use Rattle.icfg_lower.proofs.PlaceEdges.LeadLemmas.{answered, at_frame}
use Rattle.icfg_lower.proofs.place_edges.calls.demand_value.Goals as goal

pub demanded-answer-requires-clause-constants : goal.demanded-answer-requires-clause-constants
demanded-answer-requires-clause-constants c =
    frame_constants (typed_program c.args.lowering.now.parts) c.args.here.proc c.frame.result.now.columns.items c.globals.result.now c.frame.ensures c.globals.ensures

pub demanded-answer-requires-clause-fit_args : goal.demanded-answer-requires-clause-fit_args
demanded-answer-requires-clause-fit_args c =
    all_forms_by (typed_program c.args.lowering.now.parts) c.globals.result.now (map expression c.args.args.now) c.globals.ensures c.requires.fit_args

pub demanded-answer-requires-clause-fit : goal.demanded-answer-requires-clause-fit
demanded-answer-requires-clause-fit c =
    forms_by (typed_program c.args.lowering.now.parts) c.globals.result.now (expression c.args.cond.now) c.globals.ensures c.requires.fit

pub returns : goal.returns
returns c =
    let e = c.demanded-answer.ensures in
    let t : TypedProgram = typed_program c.args.lowering.now.parts in
    let f : Columns = c.frame.result.now.columns.items in
    let m : ℕ = c.local_count.result in
    let args : List TypedExpression = map expression c.args.args.now in
    let cond : TypedExpression = expression c.args.cond.now in
    let needed : ℕ → Needed = λ n. record { plan = demand_plan f m args cond c.args.want; base = n } in
    let P : Columns → ℕ → Type 0 = λ g k. IsAnswer (passed_letters g k args cond c.args.want) (passed_needed g k args cond c.args.want) c.demanded-answer.result in
    let found : P f m =
    subst (λ (n : ℕ). IsAnswer (passed_letters f m args cond c.args.want) (needed n) c.demanded-answer.result)
    (sym (wide_length f m (passed_count f args (told_condition (fixed_in f) args cond))))
    (answered (passed_letters f m args cond c.args.want) (needed (demand_base f args cond)) c.demanded-answer.result e.list e.narrow e.fits e.too_wide e.too_big) in
    c.lead_by.ensures _ _ (at_frame P f (frame_at t c.args.here.proc) m (local_count t c.args.here.proc) c.frame.ensures c.local_count.ensures found)
