use Rattle.std.proofs.Common.{◌≡◌, ap, arith}
use Rattle.trace_replay.specs.FailureText.{plain}
use Rattle.text_reports.specs.ReportTexts.{syntax_answer}
use Rattle.text_reports.specs.ReportCases.{IsFailureText, no_failure}
use Rattle.text_reports.proofs.failures.outcome.Goals as goal

pub returns-in-Err-Syntax : goal.returns-in-Err-Syntax
returns-in-Err-Syntax c =
    let same : c.from.result ≡ c.in-Err-Syntax.line = omega arith in
    no_failure c.in-Err-Syntax.line (rw c.in-Err-Syntax.field-0-is at c.in-Err-Syntax.ensures.fault) (ap syntax_answer same)

pub returns : goal.returns
returns c =
    let read = c.in-Ok.ensures.found in
    let text : IsFailureText c.args.text.now (plain c.in-Ok.failure) = record { bounds = read.0; spelled = read.1 } in
    c.replayed_failure.ensures c.args.text.now text
