use Rattle.typed_tree.specs.TypingRules.TypedParts.{typed_program}
use Rattle.text_reports.specs.Answers.{answer_of, HasNoErrorWord}
use Rattle.text_reports.proofs.TextLaws.{second_refused, second_answered}
use Rattle.explain_top.specs.Report.{kind_of, Explains}
use Rattle.explain_top.proofs.ExplainLaws.{said_as_read}
use Rattle.explain_top.proofs.explaining.explained_within.Goals as goal

pub returns-in_default-clause-reported : goal.returns-in_default-clause-reported
returns-in_default-clause-reported g c =
    second_refused c.args.request.now.answer.now (λ told. Explains (kind_of told) c.args.text.now c.args.request.now.all (typed_program c.args.program.now) c.args.icfg.now told) (g.H.Shelf.texts c.args.shelf.now)
    (rw c.in_default.is at c.in_ok-read.ensures.found)

pub returns-clause-reported : goal.returns-clause-reported
returns-clause-reported g c =
    second_answered c.args.request.now.answer.now c.in-Some.read.items (λ told. Explains (kind_of told) c.args.text.now c.args.request.now.all (typed_program c.args.program.now) c.args.icfg.now told)
    (answer_of c.in_ok-explained_text.field-0) (g.H.Shelf.texts c.args.shelf.now)
    (rw c.in-Some.is at c.in_ok-read.ensures.found)
    (rw (← c.deref.ensures.value) c.in_ok-explained_text.ensures.reported)

pub returns-clause-safe : goal.returns-clause-safe
returns-clause-safe g c = λ told.
    said_as_read c.args.request.now.answer.now told (answer_of c.in_ok-explained_text.field-0).status (HasNoErrorWord c.args.icfg.now) c.in-Some.read.items (g.H.Shelf.texts c.args.shelf.now)
    (rw c.in-Some.is at c.in_ok-read.ensures.found)
    (rw (← c.deref.ensures.value) c.in_ok-explained_text.ensures.safe)
