use Rattle.std.proofs.Common.{ap, arith}
use Rattle.std.proofs.lemmas.Result.{IfOk-weaker}
use Rattle.text_reports.specs.Answers.{answer_of, IsGraphOfText, IsRefusedText}
use Rattle.text_reports.specs.ReportTexts.{Answer}
use Rattle.text_reports.specs.ReportCases.{ReportsProof}
use Rattle.text_reports.proofs.GraphTexts.{refused_reported, refused_text_is_three, graph_reported}
use Rattle.text_reports.proofs.TextLaws.{text_is_safe}
use Rattle.text_reports.proofs.annotations.checked.Goals as goal

pub returns-in-Err-clause-reported : goal.returns-in-Err-clause-reported
returns-in-Err-clause-reported g c =
    let r : IsRefusedText c.args.entry.now c.args.text.now (answer_of c.in-Err.answer) = rw c.in-Err.is at c.in_ok-icfg.ensures in
    refused_reported c.args.entry.now c.args.text.now c.args.second.now ReportsProof (answer_of c.in-Err.answer) (g.H.Shelf.texts c.args.shelf.now) r

pub returns-in-Err-clause-accepted : goal.returns-in-Err-clause-accepted
returns-in-Err-clause-accepted g c = λ e.
    let r : IsRefusedText c.args.entry.now c.args.text.now (answer_of c.in-Err.answer) = rw c.in-Err.is at c.in_ok-icfg.ensures in
    let three = refused_text_is_three c.args.entry.now c.args.text.now (answer_of c.in-Err.answer) r in
    let status = ap (λ (a : Answer). a.status) e in
    absurd (omega (arith, three, status))

pub returns-in-Ok-clause-reported : goal.returns-in-Ok-clause-reported
returns-in-Ok-clause-reported g c =
    let h : IsGraphOfText c.args.entry.now c.args.text.now c.in-Ok.icfg = rw c.in-Ok.is at c.in_ok-icfg.ensures in
    graph_reported c.args.entry.now c.args.text.now c.args.second.now ReportsProof answer_of c.in-Ok.icfg c.judged_within.result (g.H.Shelf.texts c.args.shelf.now) h
    c.judged_within.ensures.reported

pub returns-in-Ok-clause-accepted : goal.returns-in-Ok-clause-accepted
returns-in-Ok-clause-accepted g c =
    let h : IsGraphOfText c.args.entry.now c.args.text.now c.in-Ok.icfg = rw c.in-Ok.is at c.in_ok-icfg.ensures in
    IfOk-weaker c.judged_within.result _ _ (λ a none e. text_is_safe c.args.entry.now c.args.text.now h.meant c.in-Ok.icfg h.typed h.of_program (none e)) c.judged_within.ensures.accepted
