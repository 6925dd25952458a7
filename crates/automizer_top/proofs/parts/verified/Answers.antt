use Rattle.std.proofs.lemmas.Result.{IfOk-weaker}
use Rattle.automizer_top.specs.Ties.Answers.{answered}
use Rattle.automizer_top.specs.Ties.PartViews.{RefusesParts, IsLoweredText}
use Rattle.automizer_top.proofs.PartFunctions.{verify_answered, refused_verify, lowered_is_safe}
use Rattle.automizer_top.proofs.parts.verified.Goals as goal

pub decided-requires-clause-graphs : goal.decided-requires-clause-graphs
decided-requires-clause-graphs g c κs within =
    let l : IsLoweredText c.args.options.now.entry.now c.args.text.now c.in-Ok.lowered = rw c.in-Ok.is at c.in_ok-lowered.ensures in
    l.3

pub returns-in-Ok-clause-reported : goal.returns-in-Ok-clause-reported
returns-in-Ok-clause-reported g c =
    let l : IsLoweredText c.args.options.now.entry.now c.args.text.now c.in-Ok.lowered = rw c.in-Ok.is at c.in_ok-lowered.ensures in
    verify_answered c.args.options.now.entry.now c.args.text.now c.args.options.now.limits c.in-Ok.lowered c.decided.result l c.decided.ensures.reported c.decided.ensures.short

pub returns-in-Ok-clause-safe : goal.returns-in-Ok-clause-safe
returns-in-Ok-clause-safe g c =
    let l : IsLoweredText c.args.options.now.entry.now c.args.text.now c.in-Ok.lowered = rw c.in-Ok.is at c.in_ok-lowered.ensures in
    IfOk-weaker c.decided.result _ _ (λ a h z. lowered_is_safe c.args.options.now.entry.now c.args.text.now c.in-Ok.lowered l (h z)) c.decided.ensures.safe

pub returns-in-Err-clause-reported : goal.returns-in-Err-clause-reported
returns-in-Err-clause-reported g c =
    let r : RefusesParts c.args.options.now.entry.now c.args.text.now (answered c.in-Err.answer) = rw c.in-Err.is at c.in_ok-lowered.ensures in
    refused_verify c.args.options.now.entry.now c.args.text.now c.args.options.now.limits (answered c.in-Err.answer) r
