use Rattle.std.proofs.Common.{◌∙◌, ap, refl}
use Rattle.boogie_tree.specs.View as tree
use Rattle.trace_replay.specs.FailureText.{plain}
use Rattle.text_reports.specs.ReportTexts.{syntax_answer}
use Rattle.text_reports.specs.ReportCases.{IsFailureText}
use Rattle.explain_top.specs.Report.{no_failure, stopped, of_failure}
use Rattle.explain_top.proofs.explaining.explained_failure.Goals as goal

pub returns-in-Err-Syntax : goal.returns-in-Err-Syntax
returns-in-Err-Syntax c = no_failure c.in-Err-Syntax.line (rw c.in-Err-Syntax.field-0-is at c.in-Err-Syntax.ensures.fault) (c.misspelt.ensures ∙ ap syntax_answer c.in-Err-Syntax.line-is)

pub returns-in-Ok-story : goal.returns-in-Ok-story
returns-in-Ok-story c =
    let read = c.in-Ok.ensures.found in
    let text : IsFailureText c.args.second.now (plain c.in-Ok.failure) = record { bounds = read.0; spelled = read.1 } in
    let told = c.in-Ok-story.ensures.found in
    of_failure (plain c.in-Ok.failure) told.0 (tree.program c.in_ok-tree.tree) c.in-Ok-story.lines.items text c.in_ok-tree.ensures told.1 refl

pub returns-in-Err-At : goal.returns-in-Err-At
returns-in-Err-At c =
    let read = c.in-Ok.ensures.found in
    let text : IsFailureText c.args.second.now (plain c.in-Ok.failure) = record { bounds = read.0; spelled = read.1 } in
    stopped (plain c.in-Ok.failure) c.in-Err-At.step c.in-Err-At.cause text (rw c.in-Err-At.field-0-is at c.in-Err-At.ensures.stopped) refl
