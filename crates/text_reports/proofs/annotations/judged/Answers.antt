use Rattle.std.proofs.Common.{◌≡◌, ℕ, List, rules, ap, subst, arith}
use Rattle.std.proofs.lemmas.Result.{IfOk-weaker}
use Rattle.text_reports.specs.Answers.{answer_of}
use Rattle.text_reports.specs.ReportTexts.{syntax_answer}
use Rattle.text_reports.specs.ReportCases.{IsSafeText, ReportsAnnotation, no_annotation, of_annotation}
use Rattle.text_reports.proofs.annotations.judged.Goals as goal

pub returns-in-Ok-clause-reported : goal.returns-in-Ok-clause-reported
returns-in-Ok-clause-reported c =
    let text : IsSafeText c.args.text.now c.in-Ok.coarse.items c.in-Ok.proof =
    record { rounds = c.in-Ok._rounds; small = search rules; short = c.in-Ok.ensures.short; lines = c.in-Ok.ensures.valid; spelled = c.in-Ok.ensures.found } in
    IfOk-weaker c.confirmed.result _ _
    (λ a h. of_annotation c.in-Ok.coarse.items c.in-Ok.proof text (subst (λ (ns : List ℕ). ReportsAnnotation c.args.icfg.now ns c.in-Ok.proof (answer_of a)) c.deref.ensures.value h))
    c.confirmed.ensures.reported

pub returns-in-Err-Syntax-clause-reported : goal.returns-in-Err-Syntax-clause-reported
returns-in-Err-Syntax-clause-reported c =
    let same : c.from.result ≡ c.in-Err-Syntax.line = omega arith in
    no_annotation c.in-Err-Syntax.line (rw c.in-Err-Syntax.field-0-is at c.in-Err-Syntax.ensures.syntax) (ap syntax_answer same)
