use Rattle.text_reports.specs.Answers.{answer_of}
use Rattle.automizer_top.specs.Rankings.{ReportsRankingText}
use Rattle.text_reports.proofs.TextLaws.{second_refused, second_answered}
use Rattle.automizer_top.proofs.rankings.held_within.Goals as goal

pub returns-in_default-clause-reported : goal.returns-in_default-clause-reported
returns-in_default-clause-reported g c =
    second_refused c.args.second.now (ReportsRankingText c.args.icfg.now) (g.H.Shelf.texts c.args.shelf.now) (rw c.in_default.is at c.in_ok-ranking.ensures.found)

pub returns-clause-reported : goal.returns-clause-reported
returns-clause-reported g c =
    second_answered c.args.second.now c.in-Some.ranking.items (ReportsRankingText c.args.icfg.now) (answer_of c.in_ok-held_by.field-0) (g.H.Shelf.texts c.args.shelf.now)
    (rw c.in-Some.is at c.in_ok-ranking.ensures.found)
    (rw (← c.deref.ensures.value) c.in_ok-held_by.ensures)
