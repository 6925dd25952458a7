use Rattle.std.proofs.Common.{◌≡◌, ℕ, ◌+◌, Err, length, ap, refl, ◌∙◌}
use Rattle.proof_names.specs.declared.coarse_lines.fault.CoarseFault.TheVariants.{Line, Triple}
use Rattle.proof_names.specs.Items.{first_triple}
use Rattle.proof_check.specs.declared.rejects.RejectCause.TheVariants.{BadName}
use Rattle.text_reports.specs.ReportTexts.{failed_answer, rejected_answer}
use Rattle.text_reports.specs.ReportCases.{wrong_line, missing_line}
use Rattle.text_reports.specs.ReportCases.{coarse_fails, triple_fails}
use Rattle.text_reports.proofs.TextLaws.{judged_so}
use Rattle.text_reports.proofs.annotations.confirmed.Goals as goal

pub returns-in-Err-Line-clause-reported : goal.returns-in-Err-Line-clause-reported
returns-in-Err-Line-clause-reported c =
    let refused : c.compared.result ≡ Err (Line c.in-Err-Line.place) = cc in
    wrong_line c.in-Err-Line.place (c.compared.ensures.line c.in-Err-Line.place refused) (c.wrong.ensures.answer ∙ ap (λ (n : ℕ). failed_answer (n + 4) BadName) c.in-Err-Line.place-is)

pub returns-in-Err-Triple-clause-reported : goal.returns-in-Err-Triple-clause-reported
returns-in-Err-Triple-clause-reported c =
    let refused : c.compared.result ≡ Err (Triple c.in-Err-Triple.place) = cc in
    let lacks = c.compared.ensures.triple c.in-Err-Triple.place refused in
    missing_line c.in-Err-Triple.place lacks.0 lacks.1
    (c.missing.ensures.answer ∙ ap (λ (n : ℕ). rejected_answer (length c.args.coarse.now) (first_triple c.args.proof.now + n) BadName) c.in-Err-Triple.place-is)

pub returns-in-Err-Line-clause-judged : goal.returns-in-Err-Line-clause-judged
returns-in-Err-Line-clause-judged c =
    let refused : c.compared.result ≡ Err (Line c.in-Err-Line.place) = cc in
    judged_so c.args.icfg.now c.args.coarse.now c.args.proof.now c.wrong.result _ BadName c.wrong.ensures.line
    (coarse_fails c.in-Err-Line.place (c.compared.ensures.line c.in-Err-Line.place refused) (ap (λ (n : ℕ). n + 4) c.in-Err-Line.place-is) refl)

pub returns-in-Err-Triple-clause-judged : goal.returns-in-Err-Triple-clause-judged
returns-in-Err-Triple-clause-judged c =
    let refused : c.compared.result ≡ Err (Triple c.in-Err-Triple.place) = cc in
    let lacks = c.compared.ensures.triple c.in-Err-Triple.place refused in
    judged_so c.args.icfg.now c.args.coarse.now c.args.proof.now c.missing.result _ BadName c.missing.ensures.line
    (triple_fails c.in-Err-Triple.place lacks.0 lacks.1 (ap (λ (n : ℕ). first_triple c.args.proof.now + n + (length c.args.coarse.now + 4)) c.in-Err-Triple.place-is) refl)
