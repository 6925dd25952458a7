use Rattle.std.proofs.Common.{◌≡◌, ◌∙◌, List, None, Some, ap}
use Rattle.std.specs.Prelude.{slice_get}
use Rattle.typed_tree.specs.TypingRules.TypedParts.{typed_program}
use Rattle.letter_acts.specs.Frames.{Columns}
use Rattle.letter_acts.specs.Invariant.{Graph}
use Rattle.lowered_graph.specs.LoweredSteps.ProgramFrames.{frame_at}
use Rattle.trace_replay.proofs.ToldChoices.Steps.{frame_there}
use Rattle.trace_replay.proofs.told_choices.frames.columns_of.Goals as goal

pub unreachable-requires : goal.unreachable-requires
unreachable-requires c =
    let there = frame_there (typed_program c.args.program.now) c.args.number c.requires.within in
    let e : None ≡ Some (frame_at (typed_program c.args.program.now) c.args.number) = c.in-None.ensures ∙ ap (λ (fs : List Columns). slice_get fs c.args.number) (c.frames.ensures.value ∙ ap (λ (g : Graph). g.frames) c.requires.lowered) ∙ there in
    cc

pub returns : goal.returns
returns c =
    let there = frame_there (typed_program c.args.program.now) c.args.number c.requires.within in
    let e : Some c.in-Some.frame.now.columns.items ≡ Some (frame_at (typed_program c.args.program.now) c.args.number) = c.in-Some.ensures ∙ ap (λ (fs : List Columns). slice_get fs c.args.number) (c.frames.ensures.value ∙ ap (λ (g : Graph). g.frames) c.requires.lowered) ∙ there in
    let same : c.in-Some.frame.now.columns.items ≡ frame_at (typed_program c.args.program.now) c.args.number = cc in
    c.as_slice.ensures.value ∙ same
