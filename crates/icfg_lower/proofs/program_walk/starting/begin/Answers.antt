use Rattle.std.proofs.Common.{◌≡◌, ◌∙◌, ap}
use Rattle.std.specs.Prelude.{slice_get}
use Rattle.typed_tree.specs.TypingRules.TypedParts.{TypedParts, typed_program}
use Rattle.letter_acts.specs.Acts.{inside_act}
use Rattle.letter_acts.specs.Frames.{Columns}
use Rattle.lowered_graph.specs.LoweredSteps.ProgramFrames.{frame_at}
use Rattle.lowered_graph.specs.Arcs.{entering}
use Rattle.icfg_lower.specs.PlaceEdges.WalkedParts.{walked}
use Rattle.icfg_lower.proofs.ProgramWalk.LoopSteps.{on_ok}
use Rattle.icfg_lower.proofs.ProgramWalk.StartSteps.{begun, frame_found}
use Rattle.icfg_lower.proofs.program_walk.starting.begin.Goals as goal

pub returns-clause-begins : goal.returns-clause-begins
returns-clause-begins c =
    let frame : c.unwrap-frame.result.now.columns.items ≡ frame_at (typed_program c.args.lowering.now.parts) c.args.start.proc =
    frame_found (λ f. f.now.columns.items) c.frame.result c.unwrap-frame.result (slice_get (typed_program c.layout.result.now).procs c.args.start.proc) (frame_at (typed_program c.layout.result.now) c.args.start.proc)
    c.unwrap-frame.ensures c.frame.ensures
    ∙ ap (λ (x : TypedParts). frame_at (typed_program x) c.args.start.proc) c.layout.ensures in
    on_ok _ _ c.step.result
    (λ e. begun (typed_program c.args.lowering.now.parts) c.args.start.proc c.args.start.conditions c.args.start.entry c.first.result
    (inside_act c.in_ok-step.step.proc c.in_ok-step.step.written.items c.in_ok-step.step.helpers c.in_ok-step.step.rows.items) (walked c.args.lowering.now) (walked c.step.new.self)
    c.in_ok-step.step.coarse c.requires.start c.first.ensures c.in_ok-step.ensures.exact (c.in_ok-step.ensures.act ∙ ap (λ (x : Columns). entering c.args.start.proc x) frame) (ap walked e))
    c.step.ensures
