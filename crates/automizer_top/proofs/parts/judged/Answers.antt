use Rattle.std.proofs.Common.{◌≡◌, ℕ, ◌+◌, ◌∙◌, List, rules, refl, sym, ap, subst, arith}
use Rattle.text_reports.specs.declared.answers.TextAnswer.TheVariants.{Accepted, Rejected}
use Rattle.text_reports.specs.Answers.{IsJudged}
use Rattle.text_reports.specs.Answers.{answer_of}
use Rattle.text_reports.specs.ReportTexts.{syntax_answer}
use Rattle.automizer_top.specs.Report.{IsSafeText}
use Rattle.text_reports.specs.ReportCases.{FailsOnLine}
use Rattle.automizer_top.specs.Parts.{no_part_annotation, part_rejected}
use Rattle.automizer_top.proofs.parts.judged.Goals as goal

pub returns-in-Err-Syntax-clause-reported : goal.returns-in-Err-Syntax-clause-reported
returns-in-Err-Syntax-clause-reported c =
    let same : c.from.result ≡ c.in-Err-Syntax.line = omega arith in
    no_part_annotation c.in-Err-Syntax.line (rw c.in-Err-Syntax.field-0-is at c.in-Err-Syntax.ensures.syntax) (ap (λ (n : ℕ). syntax_answer (c.args.before + n)) same)

pub returns-in-Accepted-clause-reported : goal.returns-in-Accepted-clause-reported
returns-in-Accepted-clause-reported c =
    let text : IsSafeText c.args.text.now c.in-Ok.coarse.items c.in-Ok.proof =
    record { rounds = c.in-Ok._rounds; small = search rules; short = c.in-Ok.ensures.short; lines = c.in-Ok.ensures.valid; spelled = c.in-Ok.ensures.found } in
    let right : IsJudged c.args.icfg.now c.deref.result.now c.in-Ok.proof Accepted = rw c.in-Accepted.is at c.in_ok-confirmed.ensures.judged in
    record { coarse = c.in-Ok.coarse.items; annotation = c.in-Ok.proof; spelled = text; letters = sym c.deref.ensures.value ∙ right.0; proves = right.1 }

pub returns-in-Accepted-clause-proved : goal.returns-in-Accepted-clause-proved
returns-in-Accepted-clause-proved c = λ e. c.in_ok-confirmed.ensures.accepted (ap answer_of c.in-Accepted.is)

pub returns-in-Rejected-clause-reported : goal.returns-in-Rejected-clause-reported
returns-in-Rejected-clause-reported c =
    let text : IsSafeText c.args.text.now c.in-Ok.coarse.items c.in-Ok.proof =
    record { rounds = c.in-Ok._rounds; small = search rules; short = c.in-Ok.ensures.short; lines = c.in-Ok.ensures.valid; spelled = c.in-Ok.ensures.found } in
    let wrong : IsJudged c.args.icfg.now c.deref.result.now c.in-Ok.proof (Rejected c.in-Rejected.line c.in-Rejected.cause) = rw c.in-Rejected.is at c.in_ok-confirmed.ensures.judged in
    part_rejected c.in-Ok.coarse.items c.in-Ok.proof c.in-Rejected.line c.in-Rejected.cause text
    (subst (λ (ns : List ℕ). FailsOnLine c.args.icfg.now ns c.in-Ok.proof c.in-Rejected.line c.in-Rejected.cause) c.deref.ensures.value wrong.0) refl
