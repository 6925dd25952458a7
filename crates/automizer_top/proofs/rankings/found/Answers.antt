use Rattle.std.proofs.Common.{arith}
use Rattle.std.proofs.lemmas.Result.{IfOk-weaker}
use Rattle.text_reports.specs.Answers.{answer_of, IsGraphOfText, IsRefusedText}
use Rattle.automizer_top.specs.Ties.Answers.{answered}
use Rattle.automizer_top.specs.Rankings.{ReportsLassoText}
use Rattle.text_reports.proofs.GraphTexts.{refused_reported, refused_text_is_three, graph_reported}
use Rattle.automizer_top.proofs.GraphTexts.{text_is_graph}
use Rattle.automizer_top.proofs.UsageLaws.{on_text_not_four}
use Rattle.automizer_top.proofs.rankings.found.Goals as goal

pub returns-in-Err-clause-reported : goal.returns-in-Err-clause-reported
returns-in-Err-clause-reported g c =
    let r : IsRefusedText c.args.options.now.entry.now c.args.text.now (answer_of c.in-Err.answer) = rw c.in-Err.is at c.in_ok-icfg.ensures in
    refused_reported c.args.options.now.entry.now c.args.text.now c.args.second.now (ReportsLassoText c.args.options.now.limits.depth) (answer_of c.in-Err.answer) (g.H.Shelf.texts c.args.shelf.now) r

pub returns-in-Err-clause-graph : goal.returns-in-Err-clause-graph
returns-in-Err-clause-graph g c = λ z.
    let r : IsRefusedText c.args.options.now.entry.now c.args.text.now (answer_of c.in-Err.answer) = rw c.in-Err.is at c.in_ok-icfg.ensures in
    let three = refused_text_is_three c.args.options.now.entry.now c.args.text.now (answer_of c.in-Err.answer) r in
    absurd (omega (arith, three, z))

pub returns-in-Err-clause-no_usage : goal.returns-in-Err-clause-no_usage
returns-in-Err-clause-no_usage g c = on_text_not_four c.in-Err.answer

pub returns-in-Ok-clause-reported : goal.returns-in-Ok-clause-reported
returns-in-Ok-clause-reported g c =
    let h : IsGraphOfText c.args.options.now.entry.now c.args.text.now c.in-Ok.icfg = rw c.in-Ok.is at c.in_ok-icfg.ensures in
    graph_reported c.args.options.now.entry.now c.args.text.now c.args.second.now (ReportsLassoText c.args.options.now.limits.depth) answered c.in-Ok.icfg c.sought_within.result (g.H.Shelf.texts c.args.shelf.now) h
    c.sought_within.ensures.reported

pub returns-in-Ok-clause-graph : goal.returns-in-Ok-clause-graph
returns-in-Ok-clause-graph g c =
    let h : IsGraphOfText c.args.options.now.entry.now c.args.text.now c.in-Ok.icfg = rw c.in-Ok.is at c.in_ok-icfg.ensures in
    IfOk-weaker c.sought_within.result _ _ (λ a other z. text_is_graph c.args.options.now.entry.now c.args.text.now c.in-Ok.icfg h) c.sought_within.ensures.no_usage
