use Rattle.typed_tree.specs.TypingRules.TypedParts.{typed_program}
use Rattle.text_reports.specs.Answers.{answer_of}
use Rattle.text_reports.specs.ReportCases.{IsTypedText, RefusesTyped, refused}
use Rattle.text_reports.proofs.GraphTexts.{text_lowered}
use Rattle.text_reports.proofs.programs.lowered_text.Goals as goal

pub returns-in-Ok : goal.returns-in-Ok
returns-in-Ok c =
    let t = typed_program c.in-Ok.program in
    let typed : IsTypedText c.args.entry.now c.args.text.now t = rw c.in-Ok.is at c.in_ok-program.ensures.typed in
    text_lowered c.args.entry.now c.args.text.now t c.graph.result typed c.graph.ensures.graph c.graph.ensures.kept

pub returns-in-Err : goal.returns-in-Err
returns-in-Err c =
    let r : RefusesTyped c.args.entry.now c.args.text.now (answer_of c.in-Err.answer) = rw c.in-Err.is at c.in_ok-program.ensures.typed in
    refused r
