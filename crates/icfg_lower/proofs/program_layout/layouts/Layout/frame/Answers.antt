use Rattle.std.proofs.Common.{List, ap, ◌∙◌}
use Rattle.std.specs.Prelude.{slice_get}
use Rattle.std.specs.Option.{option_map}
use Rattle.typed_tree.specs.TypingRules.TypedParts.{TypedParts, typed_program}
use Rattle.letter_acts.specs.declared.frames.Frame.{Frame}
use Rattle.letter_acts.specs.Acts.{plain_frames}
use Rattle.lowered_graph.specs.LoweredSteps.ProgramFrames.{frame_at}
use Rattle.icfg_lower.proofs.ProgramLayout.ListLaws.{get_frame}
use Rattle.icfg_lower.proofs.program_layout.layouts.Layout.frame.Goals as goal

pub returns : goal.returns
returns c =
    c.frame_in.ensures
    ∙ ap (λ (fs : List Frame). slice_get (plain_frames fs) c.args.proc) c.deref.ensures.value
    ∙ get_frame (typed_program c.self.inside.program.now) c.args.proc (plain_frames c.self.inside.frames.items) c.self.invariant.frames_are
    ∙ ap (λ (p : TypedParts). option_map (λ q. frame_at (typed_program p) c.args.proc) (slice_get (typed_program p).procs c.args.proc)) c.self.view_is
