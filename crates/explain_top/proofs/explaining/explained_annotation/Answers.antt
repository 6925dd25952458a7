use Rattle.std.proofs.lemmas.Result.{IfOk-weaker}
use Rattle.typed_tree.specs.TypingRules.TypedParts.{typed_program}
use Rattle.proof_names.specs.Outlines.{sketch}
use Rattle.text_reports.specs.Answers.{answer_of}
use Rattle.explain_top.specs.Report.{accepted}
use Rattle.explain_top.proofs.ExplainLaws.{told_as_checked}
use Rattle.explain_top.proofs.explaining.explained_annotation.Goals as goal

pub returns-in-Some-clause-reported : goal.returns-in-Some-clause-reported
returns-in-Some-clause-reported c =
    let named = rw c.in-Some.is at c.in_ok-outline.ensures.named in
    IfOk-weaker c.told.result _ _ (λ a h. accepted h.0 (sketch c.in-Some.outline) named.0 named.1 named.2 h.1 h.2) c.told.ensures

pub returns-in-None-clause-reported : goal.returns-in-None-clause-reported
returns-in-None-clause-reported c =
    let none = rw c.in-None.is at c.in_ok-outline.ensures.named in
    IfOk-weaker c.confirmed.result _ _
    (λ a r. told_as_checked c.args.text.now (typed_program c.args.program.now) c.args.icfg.now c.args.coarse.now c.args.proof.now (answer_of a) r none) c.confirmed.ensures.reported
