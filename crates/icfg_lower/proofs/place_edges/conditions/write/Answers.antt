use Rattle.std.proofs.Common.{◌∙◌, ℕ, ◌+◌, List, [], ◌∷◌, map, length, sym, subst}
use Rattle.std.specs.Prelude.{IfOk}
use Rattle.letter_acts.specs.Frames.{Columns}
use Rattle.typed_tree.specs.TypedTree.{TypedExpression, TypedProgram}
use Rattle.typed_tree.specs.TypedView.{expression}
use Rattle.typed_tree.specs.TypingRules.TypedParts.{typed_program}
use Rattle.cond_jumps.specs.FreeProducts.FrameLetters.{all_product_count, assign_letters, freed_assign_plan}
use Rattle.lowered_graph.specs.LoweredSteps.Edges.{local_count}
use Rattle.lowered_graph.specs.LoweredSteps.ProgramFrames.{frame_at}
use Rattle.lowered_graph.specs.LoweredParts.Parts.{Leads}
use Rattle.lowered_graph.specs.LoweredParts.Lists.{list_arcs}
use Rattle.lowered_graph.specs.Items.{Needed, assign_needed}
use Rattle.lowered_graph.proofs.EdgeActs.{wide_length}
use Rattle.icfg_lower.specs.PlaceEdges.Ties.Answered.{IsAnswer}
use Rattle.icfg_lower.specs.PlaceEdges.WalkedParts.{walked}
use Rattle.icfg_lower.proofs.PlaceEdges.FrameConstants.{all_forms_by, frame_constants}
use Rattle.icfg_lower.proofs.PlaceEdges.LeadLemmas.{answered, at_frame}
use Rattle.icfg_lower.proofs.place_edges.conditions.write.Goals as goal

pub free_assign-answer-requires-clause-constants : goal.free_assign-answer-requires-clause-constants
free_assign-answer-requires-clause-constants c =
    frame_constants (typed_program c.args.lowering.now.parts) c.args.here.proc c.frame.result.now.columns.items c.globals.result.now c.frame.ensures c.globals.ensures

pub free_assign-answer-requires-clause-fit : goal.free_assign-answer-requires-clause-fit
free_assign-answer-requires-clause-fit c =
    all_forms_by (typed_program c.args.lowering.now.parts) c.globals.result.now (map expression c.args.values.now) c.globals.ensures c.requires.fit

pub returns : goal.returns
returns c =
    let e = c.free_assign-answer.ensures in
    let t : TypedProgram = typed_program c.args.lowering.now.parts in
    let f : Columns = c.frame.result.now.columns.items in
    let m : ℕ = c.local_count.result in
    let F : Columns = frame_at t c.args.here.proc in
    let M : ℕ = local_count t c.args.here.proc in
    let values : List TypedExpression = map expression c.args.values.now in
    let targets : ℕ = length c.args.targets.now in
    let needed : ℕ → Needed = λ n. record { plan = freed_assign_plan f m values; base = n } in
    let P : Columns → ℕ → Type 0 = λ g k. IsAnswer (assign_letters g k targets values) (assign_needed g k values targets) c.free_assign-answer.result in
    let found : P f m =
    subst (λ (n : ℕ). IsAnswer (assign_letters f m targets values) (needed (n + targets)) c.free_assign-answer.result) (sym (wide_length f m (all_product_count f values)))
    (answered (assign_letters f m targets values) (needed ((length f + all_product_count f values) + targets)) c.free_assign-answer.result e.list e.narrow e.fits e.too_wide e.too_big) in
    let counted : IsAnswer (assign_letters F M (length c.args.values.now) values) (assign_needed F M values targets) c.free_assign-answer.result =
    subst (λ (n : ℕ). IsAnswer (assign_letters F M n values) (assign_needed F M values targets) c.free_assign-answer.result) c.requires.each
    (at_frame P f F m M c.frame.ensures c.local_count.ensures found) in
    subst
    (λ (ws : List ℕ). IfOk c.lead_by.result (λ x. Leads
    (list_arcs c.args.here.proc c.args.here.place ws (assign_letters F M (length c.args.values.now) values) c.args.to)
    (assign_needed F M values targets ∷ []) x.wide x.big (walked c.args.lowering.now) (walked c.lead_by.new.lowering)))
    (c.deref.ensures.value ∙ c.in_ok-written.ensures c.args.here.proc c.requires.targets)
    (c.lead_by.ensures _ _ counted)
