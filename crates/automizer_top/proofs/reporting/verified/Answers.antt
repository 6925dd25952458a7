use Rattle.typed_tree.specs.TypingRules.TypedParts.{typed_program}
use Rattle.text_reports.specs.Answers.{answer_of, IsGraphOf}
use Rattle.automizer_top.specs.Report.{IsTypedText, RefusesTyped, RefusesLowering, refused, of_typed, unlowered}
use Rattle.text_reports.proofs.RefusalLaws.{typed_is_not_zero, lowering_is_not_zero}
use Rattle.automizer_top.proofs.VerdictLaws.{decided_reported, decided_is_safe}
use Rattle.automizer_top.proofs.reporting.verified.Goals as goal

pub returns-in-Err-clause-reported : goal.returns-in-Err-clause-reported
returns-in-Err-clause-reported g c =
    let r : RefusesTyped c.args.options.now.entry.now c.args.text.now (answer_of c.in-Err.answer) = rw c.in-Err.is at c.in_ok-program.ensures.typed in
    refused r

pub returns-in-Err-clause-safe : goal.returns-in-Err-clause-safe
returns-in-Err-clause-safe g c = λ z.
    let r : RefusesTyped c.args.options.now.entry.now c.args.text.now (answer_of c.in-Err.answer) = rw c.in-Err.is at c.in_ok-program.ensures.typed in
    absurd (typed_is_not_zero c.args.options.now.entry.now c.args.text.now (answer_of c.in-Err.answer) r z)

pub returns-in-Err-made-clause-reported : goal.returns-in-Err-made-clause-reported
returns-in-Err-made-clause-reported g c =
    let t = typed_program c.in-Ok.program in
    let typed : IsTypedText c.args.options.now.entry.now c.args.text.now t = rw c.in-Ok.is at c.in_ok-program.ensures.typed in
    let r : RefusesLowering t (answer_of c.in-Err-made.answer) = rw c.in-Err-made.is at c.in-Ok-graph.ensures.graph in
    of_typed t typed (unlowered r)

pub returns-in-Err-made-clause-safe : goal.returns-in-Err-made-clause-safe
returns-in-Err-made-clause-safe g c = λ z.
    let t = typed_program c.in-Ok.program in
    let r : RefusesLowering t (answer_of c.in-Err-made.answer) = rw c.in-Err-made.is at c.in-Ok-graph.ensures.graph in
    absurd (lowering_is_not_zero t (answer_of c.in-Err-made.answer) r z)

pub returns-clause-reported : goal.returns-clause-reported
returns-clause-reported g c =
    let t = typed_program c.in-Ok.program in
    let typed : IsTypedText c.args.options.now.entry.now c.args.text.now t = rw c.in-Ok.is at c.in_ok-program.ensures.typed in
    let graph : IsGraphOf t c.in-Ok-made.icfg = rw c.in-Ok-made.is at c.in-Ok-graph.ensures.graph in
    decided_reported c.args.options.now.entry.now c.args.options.now.limits c.args.text.now t c.in-Ok-made.icfg c.decided-answer.result typed graph
    c.decided-answer.ensures.reported c.decided-answer.ensures.short

pub returns-clause-safe : goal.returns-clause-safe
returns-clause-safe g c =
    let t = typed_program c.in-Ok.program in
    let typed : IsTypedText c.args.options.now.entry.now c.args.text.now t = rw c.in-Ok.is at c.in_ok-program.ensures.typed in
    let graph : IsGraphOf t c.in-Ok-made.icfg = rw c.in-Ok-made.is at c.in-Ok-graph.ensures.graph in
    decided_is_safe c.args.options.now.entry.now c.args.text.now t c.in-Ok-made.icfg c.decided-answer.result typed graph c.decided-answer.ensures.safe
