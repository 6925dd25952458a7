use Rattle.std.proofs.Common.{ℕ, List, map, subst}
use Rattle.boogie_tree.specs.declared.tree.VarInfo.{VarInfo}
use Rattle.letter_acts.specs.Frames.{Columns}
use Rattle.typed_tree.specs.TypedTree.{TypedExpression, TypedProcedure, TypedProgram}
use Rattle.typed_tree.specs.TypedView.{expression, procedure}
use Rattle.typed_tree.specs.TypingRules.TypedParts.{typed_program}
use Rattle.lowered_graph.specs.LoweredSteps.Edges.{local_count}
use Rattle.lowered_graph.specs.LoweredSteps.ProgramFrames.{frame_at}
use Rattle.icfg_lower.specs.PlaceEdges.Ties.Answered.{IsImported}
use Rattle.icfg_lower.proofs.PlaceEdges.FrameConstants.{all_forms_by, ensured_by, frame_constants}
use Rattle.icfg_lower.proofs.PlaceEdges.LeadLemmas.{at_frame, import_answered}
use Rattle.icfg_lower.proofs.place_edges.calls.left.Goals as goal

pub imported-requires-clause-constants : goal.imported-requires-clause-constants
imported-requires-clause-constants c =
    frame_constants (typed_program c.args.lowering.now.parts) c.args.proc c.frame.result.now.columns.items c.globals.result.now c.frame.ensures c.globals.ensures

pub imported-requires-clause-fit_args : goal.imported-requires-clause-fit_args
imported-requires-clause-fit_args c =
    all_forms_by (typed_program c.args.lowering.now.parts) c.globals.result.now (map expression c.args.args.now) c.globals.ensures c.requires.fit_args

pub imported-requires-clause-fit : goal.imported-requires-clause-fit
imported-requires-clause-fit c =
    ensured_by (typed_program c.args.lowering.now.parts) c.globals.result.now (procedure c.args.callee.now).specs c.globals.ensures c.requires.fit

pub returns : goal.returns
returns c =
    let e = c.imported.ensures in
    let t : TypedProgram = typed_program c.args.lowering.now.parts in
    let f : Columns = c.frame.result.now.columns.items in
    let m : ℕ = c.local_count.result in
    let q : TypedProcedure = procedure c.args.callee.now in
    let args : List TypedExpression = map expression c.args.args.now in
    let P : List VarInfo → Columns → ℕ → Type 0 = λ g f m. IsImported f m g q args c.args.targets.now c.imported.result in
    subst (λ (g : List VarInfo). P g (frame_at t c.args.proc) (local_count t c.args.proc)) c.globals.ensures
    (at_frame (P c.globals.result.now) f (frame_at t c.args.proc) m (local_count t c.args.proc) c.frame.ensures c.local_count.ensures
    (import_answered f m c.globals.result.now q args c.args.targets.now c.imported.result e.written e.list e.narrow e.fits e.too_wide e.too_big))
