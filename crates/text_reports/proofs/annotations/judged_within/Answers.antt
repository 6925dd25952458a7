use Rattle.text_reports.specs.Answers.{answer_of}
use Rattle.text_reports.specs.ReportCases.{ReportsProof}
use Rattle.text_reports.proofs.TextLaws.{second_refused, second_answered}
use Rattle.text_reports.proofs.annotations.judged_within.Goals as goal

pub returns-in_default-clause-reported : goal.returns-in_default-clause-reported
returns-in_default-clause-reported g c =
    second_refused c.args.second.now (ReportsProof c.args.icfg.now) (g.H.Shelf.texts c.args.shelf.now) (rw c.in_default.is at c.in_ok-proof.ensures.found)

pub returns-clause-reported : goal.returns-clause-reported
returns-clause-reported g c =
    second_answered c.args.second.now c.in-Some.proof.items (ReportsProof c.args.icfg.now) (answer_of c.in_ok-judged.field-0) (g.H.Shelf.texts c.args.shelf.now)
    (rw c.in-Some.is at c.in_ok-proof.ensures.found)
    (rw (← c.deref.ensures.value) c.in_ok-judged.ensures.reported)
