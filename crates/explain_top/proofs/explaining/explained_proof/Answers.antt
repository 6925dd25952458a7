use Rattle.std.proofs.Common.{◌∙◌, ℕ, List, rules, ap, subst}
use Rattle.std.proofs.lemmas.Result.{IfOk-weaker}
use Rattle.typed_tree.specs.TypingRules.TypedParts.{typed_program}
use Rattle.text_reports.specs.ReportTexts.{Answer, syntax_answer}
use Rattle.text_reports.specs.ReportCases.{IsSafeText}
use Rattle.text_reports.specs.Answers.{answer_of}
use Rattle.explain_top.specs.Report.{ExplainsAnnotation, no_annotation, of_annotation}
use Rattle.explain_top.proofs.ExplainLaws.{one_is_not_zero}
use Rattle.explain_top.proofs.explaining.explained_proof.Goals as goal

pub returns-in-Ok-clause-reported : goal.returns-in-Ok-clause-reported
returns-in-Ok-clause-reported c =
    let text : IsSafeText c.args.second.now c.in-Ok.coarse.items c.in-Ok.proof =
    record { rounds = c.in-Ok._rounds; small = search rules; short = c.in-Ok.ensures.short; lines = c.in-Ok.ensures.valid; spelled = c.in-Ok.ensures.found } in
    IfOk-weaker c.explained_annotation.result _ _
    (λ a h. of_annotation c.in-Ok.coarse.items c.in-Ok.proof text
    (subst (λ (ns : List ℕ). ExplainsAnnotation c.args.text.now (typed_program c.args.program.now) c.args.icfg.now ns c.in-Ok.proof (answer_of a)) c.deref.ensures.value h))
    c.explained_annotation.ensures.reported

pub returns-in-Err-Syntax-clause-reported : goal.returns-in-Err-Syntax-clause-reported
returns-in-Err-Syntax-clause-reported c =
    no_annotation c.in-Err-Syntax.line (rw c.in-Err-Syntax.field-0-is at c.in-Err-Syntax.ensures.syntax) (c.misspelt.ensures ∙ ap syntax_answer c.in-Err-Syntax.line-is)

pub returns-in-Err-Syntax-clause-safe : goal.returns-in-Err-Syntax-clause-safe
returns-in-Err-Syntax-clause-safe c = λ zero. absurd (one_is_not_zero (answer_of c.misspelt.result) (ap (λ (a : Answer). a.status) c.misspelt.ensures) zero)
