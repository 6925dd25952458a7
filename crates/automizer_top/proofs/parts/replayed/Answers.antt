use Rattle.std.proofs.Common.{map, arith}
use Rattle.typed_tree.specs.TypingRules.TypedParts.{typed_program}
use Rattle.modular_cut.specs.View.{plain_part}
use Rattle.text_reports.specs.Answers.{answer_of}
use Rattle.automizer_top.specs.Ties.Answers.{answered}
use Rattle.text_reports.specs.ReportTexts.{too_long_answer}
use Rattle.automizer_top.specs.Report.{IsTypedText, RefusesTyped}
use Rattle.automizer_top.specs.Parts.{ReportsPartFailure}
use Rattle.automizer_top.specs.Ties.PartViews.{AreParts, RefusesFree}
use Rattle.text_reports.proofs.TextLaws.{second_refused, second_answered}
use Rattle.automizer_top.proofs.PartFunctions.{typed_unreplayed, free_unreplayed, replay_reported, free_is_three}
use Rattle.automizer_top.proofs.UsageLaws.{on_text_not_four}
use Rattle.automizer_top.proofs.parts.replayed.Goals as goal

pub returns-in-Err-clause-reported : goal.returns-in-Err-clause-reported
returns-in-Err-clause-reported g c =
    let refused : RefusesTyped c.args.entry.now c.args.text.now (answer_of c.in-Err.answer) = rw c.in-Err.is at c.in_ok-program.ensures.typed in
    typed_unreplayed c.args.entry.now c.args.text.now c.args.second.now (answer_of c.in-Err.answer) (g.H.Shelf.texts c.args.shelf.now) refused

pub returns-in-Err-clause-no_usage : goal.returns-in-Err-clause-no_usage
returns-in-Err-clause-no_usage g c = on_text_not_four c.in-Err.answer

pub parts_of-requires : goal.parts_of-requires
parts_of-requires g c = record { names = rw c.in-Ok.is at c.in_ok-program.ensures.names }

pub returns-in-Err-2-clause-reported : goal.returns-in-Err-2-clause-reported
returns-in-Err-2-clause-reported g c =
    let t = typed_program c.in-Ok.program in
    let typed : IsTypedText c.args.entry.now c.args.text.now t = rw c.in-Ok.is at c.in_ok-program.ensures.typed in
    let r : RefusesFree t (answered c.in-Err-2.answer) = rw c.in-Err-2.is at c.in_ok-parts.ensures in
    free_unreplayed c.args.entry.now c.args.text.now c.args.second.now t (answered c.in-Err-2.answer) (g.H.Shelf.texts c.args.shelf.now) typed r

pub returns-in-Err-2-clause-no_usage : goal.returns-in-Err-2-clause-no_usage
returns-in-Err-2-clause-no_usage g c = λ e.
    let t = typed_program c.in-Ok.program in
    let r : RefusesFree t (answered c.in-Err-2.answer) = rw c.in-Err-2.is at c.in_ok-parts.ensures in
    let three = free_is_three t (answered c.in-Err-2.answer) r in
    omega (arith, three, e)

pub returns-in_default-clause-reported : goal.returns-in_default-clause-reported
returns-in_default-clause-reported g c =
    let t = typed_program c.in-Ok.program in
    let typed : IsTypedText c.args.entry.now c.args.text.now t = rw c.in-Ok.is at c.in_ok-program.ensures.typed in
    let parts : AreParts t c.in-Ok-2.parts.items = rw c.in-Ok-2.is at c.in_ok-parts.ensures in
    replay_reported c.args.entry.now c.args.text.now c.args.second.now t c.in-Ok-2.parts.items too_long_answer (g.H.Shelf.texts c.args.shelf.now) typed parts
    (second_refused c.args.second.now (ReportsPartFailure (map plain_part c.in-Ok-2.parts.items)) (g.H.Shelf.texts c.args.shelf.now) (rw c.in_default.is at c.in_ok-failure.ensures.found))

pub returns-clause-reported : goal.returns-clause-reported
returns-clause-reported g c =
    let t = typed_program c.in-Ok.program in
    let typed : IsTypedText c.args.entry.now c.args.text.now t = rw c.in-Ok.is at c.in_ok-program.ensures.typed in
    let parts : AreParts t c.in-Ok-2.parts.items = rw c.in-Ok-2.is at c.in_ok-parts.ensures in
    replay_reported c.args.entry.now c.args.text.now c.args.second.now t c.in-Ok-2.parts.items (answer_of c.in_ok-outcome.field-0) (g.H.Shelf.texts c.args.shelf.now) typed parts
    (second_answered c.args.second.now c.in-Some.failure.items (ReportsPartFailure (map plain_part c.in-Ok-2.parts.items)) (answer_of c.in_ok-outcome.field-0) (g.H.Shelf.texts c.args.shelf.now)
    (rw c.in-Some.is at c.in_ok-failure.ensures.found)
    (rw (← c.deref.ensures.value, ← c.deref-2.ensures.value) c.in_ok-outcome.ensures))

pub returns-clause-no_usage : goal.returns-clause-no_usage
returns-clause-no_usage g c = on_text_not_four c.in_ok-outcome.field-0
