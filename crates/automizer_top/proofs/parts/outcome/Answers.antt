use Rattle.std.proofs.Common.{◌≡◌, ◌+◌, ℕ, Some, refl, ap, arith, map, subst}
use Rattle.std.proofs.lemmas.Result.{IfOk-weaker}
use Rattle.trace_replay.specs.FailureText.{plain}
use Rattle.modular_cut.specs.Parts.{PlainPart}
use Rattle.modular_cut.specs.View.{plain_part}
use Rattle.text_reports.specs.Answers.{answer_of}
use Rattle.text_reports.specs.ReportTexts.{syntax_answer}
use Rattle.automizer_top.specs.Report.{IsFailureText, ReportsFailure}
use Rattle.automizer_top.specs.Parts.{no_part, no_part_failure, of_part_failure}
use Rattle.automizer_top.specs.Ties.PartViews.{FindsPart}
use Rattle.automizer_top.proofs.PartLoops.{part_at}
use Rattle.automizer_top.proofs.parts.outcome.Goals as goal

pub returns-in_default : goal.returns-in_default
returns-in_default c = no_part c.in_default.ensures refl

pub returns-in-Err-Syntax : goal.returns-in-Err-Syntax
returns-in-Err-Syntax c =
    let found : FindsPart (map plain_part c.args.parts.now) c.args.text.now (Some (c.in-Some.number, c.in-Some.rest)) = c.in-Some.ensures in
    let same : c.from.result ≡ c.in-Err-Syntax.line = omega arith in
    no_part_failure found.0 c.in-Some.rest.now c.in-Err-Syntax.line found.2 (rw c.in-Err-Syntax.field-0-is at c.in-Err-Syntax.ensures.fault) (ap (λ (n : ℕ). syntax_answer (n + 1)) same)

pub returns : goal.returns
returns c =
    let found : FindsPart (map plain_part c.args.parts.now) c.args.text.now (Some (c.in-Some.number, c.in-Some.rest)) = c.in-Some.ensures in
    let read = c.in-Ok.ensures.found in
    let text : IsFailureText c.in-Some.rest.now (plain c.in-Ok.failure) = record { bounds = read.0; spelled = read.1 } in
    IfOk-weaker c.replayed_failure.result _ _
    (λ a r. of_part_failure found.0 c.in-Some.rest.now (plain c.in-Ok.failure) found.2 text
    (subst (λ (p : PlainPart). ReportsFailure p.program c.in-Some.rest.now (answer_of a)) (part_at c.args.parts.now c.in-Some.number c.index-parts-number.result found.0 found.1) r))
    (c.replayed_failure.ensures c.in-Some.rest.now text)
