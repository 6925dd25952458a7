use Rattle.typed_tree.specs.TypedTree.{TypedProgram}
use Rattle.std.proofs.Common.{false, sym, subst, [], ◌∷◌}
use Rattle.typed_tree.specs.TypedView.{expression}
use Rattle.cond_jumps.specs.FreeProducts.FrameLetters.{path_letters}
use Rattle.lowered_graph.specs.LoweredSteps.Edges.{local_count}
use Rattle.lowered_graph.specs.LoweredSteps.ProgramFrames.{frame_at}
use Rattle.lowered_graph.specs.Items.{path_needed}
use Rattle.lowered_graph.specs.LoweredParts.Lists.{list_arcs}
use Rattle.icfg_lower.specs.PlaceEdges.Forms.{FormsFit}
use Rattle.icfg_lower.proofs.PlaceEdges.LeadLemmas.{leads_then}
use Rattle.icfg_lower.proofs.place_edges.conditions.test.Goals as goal

pub choose-requires-2-clause-fit : goal.choose-requires-2-clause-fit
choose-requires-2-clause-fit c = subst (λ (t : TypedProgram). FormsFit t (expression c.args.cond.now)) (sym c.in_ok-first.ensures.program) c.requires.fit

pub returns : goal.returns
returns c =
    leads_then _
    (λ (t : TypedProgram). list_arcs c.args.here.proc c.args.here.place [] (path_letters (frame_at t c.args.here.proc) (local_count t c.args.here.proc) (expression c.args.cond.now) false) c.args.miss)
    _ (λ (t : TypedProgram). path_needed (frame_at t c.args.here.proc) (local_count t c.args.here.proc) (expression c.args.cond.now) false ∷ [])
    _ _ _ _ _ _ _ _ _ c.either.ensures.wide c.either.ensures.big c.in_ok-first.ensures c.in_ok-second.ensures
