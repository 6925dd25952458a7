use Rattle.automizer_top.specs.Ties.Answers.{answered}
use Rattle.automizer_top.specs.Rankings.{ReportsLassoText}
use Rattle.text_reports.proofs.TextLaws.{second_refused, second_answered}
use Rattle.automizer_top.proofs.RankingLaws.{lasso_text_not_four}
use Rattle.automizer_top.proofs.rankings.sought_within.Goals as goal

pub returns-in_default-clause-reported : goal.returns-in_default-clause-reported
returns-in_default-clause-reported g c =
    second_refused c.args.second.now (ReportsLassoText c.args.depth c.args.icfg.now) (g.H.Shelf.texts c.args.shelf.now) (rw c.in_default.is at c.in_ok-lasso.ensures.found)

pub returns-clause-reported : goal.returns-clause-reported
returns-clause-reported g c =
    second_answered c.args.second.now c.in-Some.lasso.items (ReportsLassoText c.args.depth c.args.icfg.now) (answered c.in_ok-sought_by.field-0) (g.H.Shelf.texts c.args.shelf.now)
    (rw c.in-Some.is at c.in_ok-lasso.ensures.found)
    (rw (← c.deref.ensures.value) c.in_ok-sought_by.ensures)

pub returns-clause-no_usage : goal.returns-clause-no_usage
returns-clause-no_usage g c = lasso_text_not_four c.args.depth c.args.icfg.now c.deref.result.now (answered c.in_ok-sought_by.field-0) c.in_ok-sought_by.ensures
