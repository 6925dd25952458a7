use Rattle.std.proofs.Common.{◌∙◌}
use Rattle.typed_tree.specs.TypingRules.TypedParts.{typed_program}
use Rattle.lowering_table.proofs.CallerLemmas.{of_found}
use Rattle.icfg_lower.proofs.PlaceEdges.FrameConstants.{frame_constants}
use Rattle.lowering_table.proofs.callers.caller_of.Goals as goal

pub invariant_of-result : goal.invariant_of-result
invariant_of-result c =
    let f = of_found (λ f. f.now.columns.items) _ c.frame.result _ c.in_ok-frame.frame c.frame.ensures c.in_ok-frame.was in
    let g = c.globals-globals.ensures.value ∙ (λ j. (c.program.ensures.value j).globals) in
    record { constants = frame_constants (typed_program c.args.layout.now) c.args.number c.in_ok-frame.frame.now.columns.items c.globals-globals.result.now f g }
