use Rattle.std.proofs.Common.{Bool, sym, subst}
use Rattle.std.specs.Prelude.{IfOk, IfSome}
use Rattle.outer_io.specs.Texts.{text_named}
use Rattle.text_reports.specs.Answers.{answer_of}
use Rattle.automizer_top.specs.Ties.Answers.{answered}
use Rattle.automizer_top.specs.Report.{ReportsCheckBy}
use Rattle.automizer_top.proofs.UsageLaws.{on_text_not_four}
use Rattle.automizer_top.proofs.reporting.checked_by.Goals as goal

pub returns-then-options-clause-reported : goal.returns-then-options-clause-reported
returns-then-options-clause-reported g c =
    subst (λ (m : Bool). IfOk c.checked.result (λ a. IfSome (g.H.Shelf.texts c.args.shelf.now) (λ shown. ReportsCheckBy m c.args.options.now.entry.now c.args.text.now (text_named c.args.second.now shown) (answered a)))) (sym c.if-options.true) c.checked.ensures.reported

pub returns-in_ok-answer-clause-reported : goal.returns-in_ok-answer-clause-reported
returns-in_ok-answer-clause-reported g c =
    subst (λ (m : Bool). IfSome (g.H.Shelf.texts c.args.shelf.now) (λ shown. ReportsCheckBy m c.args.options.now.entry.now c.args.text.now (text_named c.args.second.now shown) (answer_of c.in_ok-answer.answer)))
    (sym c.if-options.false) c.in_ok-answer.ensures.reported

pub returns-in_ok-answer-clause-no_usage : goal.returns-in_ok-answer-clause-no_usage
returns-in_ok-answer-clause-no_usage g c = on_text_not_four c.in_ok-answer.answer
