use Rattle.std.proofs.lemmas.Result.{IfOk-weaker}
use Rattle.typed_tree.specs.TypingRules.TypedParts.{typed_program}
use Rattle.text_reports.specs.ReportCases.{IsTypedText, RefusesTyped, RefusesLowering}
use Rattle.text_reports.specs.Answers.{answer_of, IsGraphOf, HasNoErrorWord, TextIsSafe}
use Rattle.text_reports.proofs.RefusalLaws.{typed_is_not_zero, lowering_is_not_zero}
use Rattle.text_reports.proofs.TextLaws.{text_is_safe}
use Rattle.explain_top.proofs.ExplainLaws.{nothing_said, more_said, refused_explained, unlowered_explained, lowered_explained}
use Rattle.explain_top.proofs.explaining.explaining.Goals as goal

pub returns-in-Err-clause-reported : goal.returns-in-Err-clause-reported
returns-in-Err-clause-reported g c =
    let r : RefusesTyped c.args.request.now.entry.now c.args.text.now (answer_of c.in-Err.answer) = rw c.in-Err.is at c.in_ok-program.ensures.typed in
    refused_explained c.args.request.now.entry.now c.args.request.now.all c.args.text.now c.args.request.now.answer.now (answer_of c.in-Err.answer) (g.H.Shelf.texts c.args.shelf.now) r

pub returns-in-Err-clause-safe : goal.returns-in-Err-clause-safe
returns-in-Err-clause-safe g c = λ told.
    let r : RefusesTyped c.args.request.now.entry.now c.args.text.now (answer_of c.in-Err.answer) = rw c.in-Err.is at c.in_ok-program.ensures.typed in
    nothing_said c.args.request.now.answer.now told (answer_of c.in-Err.answer).status (TextIsSafe c.args.request.now.entry.now c.args.text.now) (g.H.Shelf.texts c.args.shelf.now)
    (typed_is_not_zero c.args.request.now.entry.now c.args.text.now (answer_of c.in-Err.answer) r)

pub returns-in-Err-2-clause-reported : goal.returns-in-Err-2-clause-reported
returns-in-Err-2-clause-reported g c =
    let t = typed_program c.in-Ok.program in
    let typed : IsTypedText c.args.request.now.entry.now c.args.text.now t = rw c.in-Ok.is at c.in_ok-program.ensures.typed in
    let r : RefusesLowering t (answer_of c.in-Err-2.answer) = rw c.in-Err-2.is at c.in_ok-icfg.ensures.graph in
    unlowered_explained c.args.request.now.entry.now c.args.request.now.all c.args.text.now c.args.request.now.answer.now t (answer_of c.in-Err-2.answer) (g.H.Shelf.texts c.args.shelf.now) typed r

pub returns-in-Err-2-clause-safe : goal.returns-in-Err-2-clause-safe
returns-in-Err-2-clause-safe g c = λ told.
    let t = typed_program c.in-Ok.program in
    let r : RefusesLowering t (answer_of c.in-Err-2.answer) = rw c.in-Err-2.is at c.in_ok-icfg.ensures.graph in
    nothing_said c.args.request.now.answer.now told (answer_of c.in-Err-2.answer).status (TextIsSafe c.args.request.now.entry.now c.args.text.now) (g.H.Shelf.texts c.args.shelf.now)
    (lowering_is_not_zero t (answer_of c.in-Err-2.answer) r)

pub explained_within-requires-clause-spelled : goal.explained_within-requires-clause-spelled
explained_within-requires-clause-spelled g c =
    let typed : IsTypedText c.args.request.now.entry.now c.args.text.now (typed_program c.in-Ok.program) = rw c.in-Ok.is at c.in_ok-program.ensures.typed in
    (typed.tree, typed.spelled)

pub returns-clause-reported : goal.returns-clause-reported
returns-clause-reported g c =
    let t = typed_program c.in-Ok.program in
    let typed : IsTypedText c.args.request.now.entry.now c.args.text.now t = rw c.in-Ok.is at c.in_ok-program.ensures.typed in
    let graph : IsGraphOf t c.in-Ok-2.icfg = rw c.in-Ok-2.is at c.in_ok-icfg.ensures.graph in
    lowered_explained c.args.request.now.entry.now c.args.request.now.all c.args.text.now c.args.request.now.answer.now answer_of t c.in-Ok-2.icfg c.explained_within.result (g.H.Shelf.texts c.args.shelf.now) typed graph
    c.explained_within.ensures.reported

pub returns-clause-safe : goal.returns-clause-safe
returns-clause-safe g c =
    let t = typed_program c.in-Ok.program in
    let typed : IsTypedText c.args.request.now.entry.now c.args.text.now t = rw c.in-Ok.is at c.in_ok-program.ensures.typed in
    let graph : IsGraphOf t c.in-Ok-2.icfg = rw c.in-Ok-2.is at c.in_ok-icfg.ensures.graph in
    let said = text_is_safe c.args.request.now.entry.now c.args.text.now t c.in-Ok-2.icfg typed graph in
    IfOk-weaker c.explained_within.result _ _
    (λ a none told.
    more_said c.args.request.now.answer.now told (answer_of a).status (HasNoErrorWord c.in-Ok-2.icfg) (TextIsSafe c.args.request.now.entry.now c.args.text.now)
    (g.H.Shelf.texts c.args.shelf.now) said (none told))
    c.explained_within.ensures.safe
