use Rattle.std.proofs.Common.{◌∙◌, ap, refl}
use Rattle.boogie_tree.specs.View as tree
use Rattle.explain_top.specs.TraceStory.TraceText.{plain}
use Rattle.text_reports.specs.ReportTexts.{syntax_answer}
use Rattle.explain_top.specs.Report.{IsTraceText, no_trace, no_letter, no_run, of_trace}
use Rattle.explain_top.proofs.explaining.explained_trace.Goals as goal

pub returns-in-Err-Syntax : goal.returns-in-Err-Syntax
returns-in-Err-Syntax c = no_trace c.in-Err-Syntax.line (rw c.in-Err-Syntax.field-0-is at c.in-Err-Syntax.ensures.fault) (c.misspelt.ensures ∙ ap syntax_answer c.in-Err-Syntax.line-is)

pub returns-in-Ok-trace_story : goal.returns-in-Ok-trace_story
returns-in-Ok-trace_story c =
    let read = c.in-Ok.ensures.found in
    let text : IsTraceText c.args.second.now (plain c.in-Ok.trace) = record { bounds = read.0; spelled = read.1 } in
    of_trace (plain c.in-Ok.trace) (tree.program c.in_ok-tree.tree) c.in-Ok-trace_story.bytes.items text c.in_ok-tree.ensures c.in-Ok-trace_story.ensures.told refl

pub returns-in-Err-BadName : goal.returns-in-Err-BadName
returns-in-Err-BadName c =
    let read = c.in-Ok.ensures.found in
    let text : IsTraceText c.args.second.now (plain c.in-Ok.trace) = record { bounds = read.0; spelled = read.1 } in
    no_letter (plain c.in-Ok.trace) text (rw c.in-Err-BadName.field-0-is at c.in-Err-BadName.ensures.refused) refl

pub returns-in-Err-BadStep : goal.returns-in-Err-BadStep
returns-in-Err-BadStep c =
    let read = c.in-Ok.ensures.found in
    let text : IsTraceText c.args.second.now (plain c.in-Ok.trace) = record { bounds = read.0; spelled = read.1 } in
    let refused = rw c.in-Err-BadStep.field-0-is at c.in-Err-BadStep.ensures.refused in
    no_run (plain c.in-Ok.trace) refused.0 text refused.1 refused.2 refl
