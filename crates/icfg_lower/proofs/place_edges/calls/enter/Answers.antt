use Rattle.std.proofs.Common.{map, ap}
use Rattle.typed_tree.specs.TypedTree.{TypedProgram}
use Rattle.typed_tree.specs.TypedView.{expression}
use Rattle.typed_tree.specs.TypingRules.TypedParts.{typed_program}
use Rattle.cond_jumps.specs.FreeProducts.LetterView.{marked}
use Rattle.lowered_graph.specs.LoweredSteps.ProgramFrames.{frame_at}
use Rattle.lowered_graph.specs.LoweredSteps.Edges.{call_letters, numbers_in}
use Rattle.lowered_graph.specs.Items.{call_needed}
use Rattle.icfg_lower.specs.ProgramLayout.Layouts.{marks_of}
use Rattle.icfg_lower.specs.PlaceEdges.WalkedParts.{walked}
use Rattle.icfg_lower.proofs.PlaceEdges.LeadLemmas.{entered}
use Rattle.icfg_lower.proofs.place_edges.calls.enter.Goals as goal

pub returns-in_ok-call-in-Ok : goal.returns-in_ok-call-in-Ok
returns-in_ok-call-in-Ok c = λ q h.
    let t : TypedProgram = typed_program c.args.lowering.now.parts in
    entered c.args.here.proc c.args.called.callee c.args.here.place c.args.after (marked c.in-Ok.passed)
    (call_letters t c.args.here.proc c.args.called.callee (map expression c.args.called.args.now)) c.marks-marks.result (marks_of t (c.args.called.callee, q))
    c.in_ok-targets.targets.items (numbers_in (frame_at t c.args.here.proc) c.args.called.targets.now)
    (call_needed t c.args.here.proc c.args.called.callee (map expression c.args.called.args.now)) (walked c.args.lowering.now) (walked c.call.new.self)
    c.in-Ok.ensures.0 (c.marks-marks.ensures q h) (c.in_ok-targets.ensures c.args.here.proc c.requires.targets) c.in-Ok.ensures.1 (ap walked c.in_ok-call-in-Ok.ensures)
