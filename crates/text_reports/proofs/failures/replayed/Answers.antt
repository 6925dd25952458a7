use Rattle.typed_tree.specs.TypingRules.TypedParts.{typed_program}
use Rattle.text_reports.specs.Answers.{answer_of}
use Rattle.text_reports.specs.ReportTexts.{too_long_answer}
use Rattle.text_reports.specs.ReportCases.{IsTypedText, RefusesTyped, ReportsFailure}
use Rattle.text_reports.proofs.TextLaws.{refused_replayed, typed_replayed, second_refused, second_answered}
use Rattle.text_reports.proofs.failures.replayed.Goals as goal

pub returns-in-Err-clause-reported : goal.returns-in-Err-clause-reported
returns-in-Err-clause-reported g c =
    let refused : RefusesTyped c.args.entry.now c.args.text.now (answer_of c.in-Err.answer) = rw c.in-Err.is at c.in_ok-program.ensures.typed in
    refused_replayed c.args.entry.now c.args.text.now c.args.second.now (answer_of c.in-Err.answer) (g.H.Shelf.texts c.args.shelf.now) refused

pub returns-in_default-clause-reported : goal.returns-in_default-clause-reported
returns-in_default-clause-reported g c =
    let t = typed_program c.in-Ok.program in
    let typed : IsTypedText c.args.entry.now c.args.text.now t = rw c.in-Ok.is at c.in_ok-program.ensures.typed in
    typed_replayed c.args.entry.now c.args.text.now c.args.second.now t too_long_answer (g.H.Shelf.texts c.args.shelf.now) typed
    (second_refused c.args.second.now (ReportsFailure t) (g.H.Shelf.texts c.args.shelf.now) (rw c.in_default.is at c.in_ok-failure.ensures.found))

pub returns-clause-reported : goal.returns-clause-reported
returns-clause-reported g c =
    let t = typed_program c.in-Ok.program in
    let typed : IsTypedText c.args.entry.now c.args.text.now t = rw c.in-Ok.is at c.in_ok-program.ensures.typed in
    typed_replayed c.args.entry.now c.args.text.now c.args.second.now t (answer_of c.in_ok-outcome.field-0) (g.H.Shelf.texts c.args.shelf.now) typed
    (second_answered c.args.second.now c.in-Some.failure.items (ReportsFailure t) (answer_of c.in_ok-outcome.field-0) (g.H.Shelf.texts c.args.shelf.now)
    (rw c.in-Some.is at c.in_ok-failure.ensures.found)
    (rw (← c.deref.ensures.value) c.in_ok-outcome.ensures))
