use Rattle.std.proofs.Common.{◌≡◌, ℕ, ◌+◌, ◌∙◌, List, map, length, ap, subst, arith}
use Rattle.letter_acts.specs.Frames.{Columns}
use Rattle.typed_tree.specs.TypedTree.{TypedExpression, TypedProgram}
use Rattle.typed_tree.specs.TypedView.{expression}
use Rattle.typed_tree.specs.TypingRules.TypedParts.{typed_program}
use Rattle.boogie_run.specs.Needs.{locals_at}
use Rattle.lowered_graph.specs.LoweredSteps.ProgramFrames.{frame_at, width_at}
use Rattle.lowered_graph.specs.LoweredSteps.Edges.{columns_before_locals, local_count}
use Rattle.lowered_graph.proofs.LoweredSteps.Enters.{width_is}
use Rattle.icfg_lower.specs.CallJumps.CallLists.{parameters_base, parameters_letters, parameters_plan}
use Rattle.icfg_lower.specs.PlaceEdges.Ties.Answered.{IsPassed}
use Rattle.icfg_lower.proofs.PlaceEdges.FrameConstants.{all_forms_by, frame_constants}
use Rattle.icfg_lower.proofs.PlaceEdges.LeadLemmas.{at_frame, passed}
use Rattle.icfg_lower.proofs.place_edges.calls.letter_of_call.Goals as goal

pub parameters-requires-clause-constants : goal.parameters-requires-clause-constants
parameters-requires-clause-constants c =
    frame_constants (typed_program c.args.lowering.now.parts) c.args.proc c.frame-2.result.now.columns.items c.globals.result.now c.frame-2.ensures c.globals.ensures

pub parameters-requires-clause-fit_args : goal.parameters-requires-clause-fit_args
parameters-requires-clause-fit_args c =
    all_forms_by (typed_program c.args.lowering.now.parts) c.globals.result.now (map expression c.args.args.now) c.globals.ensures c.requires.fit

pub parameters-requires-clause-parameters : goal.parameters-requires-clause-parameters
parameters-requires-clause-parameters c =
    let w : length c.frame.result.now.columns.items ≡ columns_before_locals (typed_program c.args.lowering.now.parts) + length (locals_at (typed_program c.args.lowering.now.parts) c.args.callee) =
    ap length c.frame.ensures ∙ width_is (typed_program c.args.lowering.now.parts) c.args.callee in
    omega (arith, w, c.in_ok-callee_width.ensures, c.before_locals.ensures, c.requires.arguments)

pub returns : goal.returns
returns c =
    let t : TypedProgram = typed_program c.args.lowering.now.parts in
    let es : List TypedExpression = map expression c.args.args.now in
    let e = c.parameters.ensures in
    let P : ℕ → ℕ → Columns → ℕ → Type 0 =
    λ before callee f m. IsPassed (parameters_letters f m before callee es) (record { plan = parameters_plan f m before es; base = parameters_base f callee es }) c.parameters.result in
    let before : ℕ = c.before_locals.result in
    let f : Columns = c.frame-2.result.now.columns.items in
    let m : ℕ = c.local_count-locals.result in
    let callee : c.in_ok-callee_width.callee_width ≡ width_at t c.args.callee = c.in_ok-callee_width.ensures ∙ ap length c.frame.ensures in
    let found : P before c.in_ok-callee_width.callee_width f m =
    passed (parameters_letters f m before c.in_ok-callee_width.callee_width es) (record { plan = parameters_plan f m before es; base = parameters_base f c.in_ok-callee_width.callee_width es })
    c.parameters.result e.list e.narrow e.fits e.too_wide e.too_big in
    let framed : P before c.in_ok-callee_width.callee_width (frame_at t c.args.proc) (local_count t c.args.proc) =
    at_frame (P before c.in_ok-callee_width.callee_width) f (frame_at t c.args.proc) m (local_count t c.args.proc) c.frame-2.ensures c.local_count-locals.ensures found in
    subst (λ (n : ℕ). P (columns_before_locals t) n (frame_at t c.args.proc) (local_count t c.args.proc)) callee
    (subst (λ (j : ℕ). P j c.in_ok-callee_width.callee_width (frame_at t c.args.proc) (local_count t c.args.proc)) c.before_locals.ensures framed)
