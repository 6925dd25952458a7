use Rattle.typed_tree.specs.TypingRules.TypedParts.{typed_program}
use Rattle.automizer_top.specs.Ties.Answers.{answered}
use Rattle.automizer_top.specs.Earlier.{ReportsReuse}
use Rattle.text_reports.proofs.TextLaws.{second_refused, second_answered}
use Rattle.automizer_top.proofs.earlier.decided_within.Goals as goal

pub returns-in_default-clause-reported : goal.returns-in_default-clause-reported
returns-in_default-clause-reported g c =
    second_refused c.args.old.now (ReportsReuse c.args.limits (typed_program c.args.program.now)) (g.H.Shelf.texts c.args.shelf.now) (rw c.in_default.is at c.in_ok-text.ensures.found)

pub returns-clause-reported : goal.returns-clause-reported
returns-clause-reported g c =
    second_answered c.args.old.now c.in-Some.text.items (ReportsReuse c.args.limits (typed_program c.args.program.now)) (answered c.in_ok-decided_by.field-0) (g.H.Shelf.texts c.args.shelf.now)
    (rw c.in-Some.is at c.in_ok-text.ensures.found)
    (rw (← c.deref.ensures.value) c.in_ok-decided_by.ensures.reported)
