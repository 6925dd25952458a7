use Rattle.typed_tree.specs.TypingRules.TypedParts.{typed_program}
use Rattle.text_reports.specs.Answers.{answer_of, IsGraphOf}
use Rattle.automizer_top.specs.Report.{IsTypedText, RefusesTyped, RefusesLowering}
use Rattle.text_reports.proofs.RefusalLaws.{typed_is_not_zero, lowering_is_not_zero}
use Rattle.automizer_top.proofs.UsageLaws.{on_text_not_four}
use Rattle.automizer_top.proofs.EarlierLaws.{refused_with, unlowered_with, decided_with}
use Rattle.automizer_top.proofs.VerdictLaws.{decided_is_safe}
use Rattle.automizer_top.proofs.earlier.verified.Goals as goal

pub returns-in-Err-clause-reported : goal.returns-in-Err-clause-reported
returns-in-Err-clause-reported g c =
    let r : RefusesTyped c.args.options.now.entry.now c.args.text.now (answer_of c.in-Err.answer) = rw c.in-Err.is at c.in_ok-program.ensures.typed in
    refused_with c.args.options.now.entry.now c.args.options.now.limits c.args.text.now c.args.old.now (answer_of c.in-Err.answer) (g.H.Shelf.texts c.args.shelf.now) r

pub returns-in-Err-made-clause-reported : goal.returns-in-Err-made-clause-reported
returns-in-Err-made-clause-reported g c =
    let t = typed_program c.in-Ok.program in
    let typed : IsTypedText c.args.options.now.entry.now c.args.text.now t = rw c.in-Ok.is at c.in_ok-program.ensures.typed in
    let r : RefusesLowering t (answer_of c.in-Err-made.answer) = rw c.in-Err-made.is at c.in-Ok-graph.ensures.graph in
    unlowered_with c.args.options.now.entry.now c.args.options.now.limits c.args.text.now c.args.old.now t (answer_of c.in-Err-made.answer) (g.H.Shelf.texts c.args.shelf.now) typed r

pub returns-in-Err-clause-safe : goal.returns-in-Err-clause-safe
returns-in-Err-clause-safe g c = λ z.
    let r : RefusesTyped c.args.options.now.entry.now c.args.text.now (answer_of c.in-Err.answer) = rw c.in-Err.is at c.in_ok-program.ensures.typed in
    absurd (typed_is_not_zero c.args.options.now.entry.now c.args.text.now (answer_of c.in-Err.answer) r z)

pub returns-in-Err-clause-no_usage : goal.returns-in-Err-clause-no_usage
returns-in-Err-clause-no_usage g c = on_text_not_four c.in-Err.answer

pub returns-in-Err-made-clause-safe : goal.returns-in-Err-made-clause-safe
returns-in-Err-made-clause-safe g c = λ z.
    let t = typed_program c.in-Ok.program in
    let r : RefusesLowering t (answer_of c.in-Err-made.answer) = rw c.in-Err-made.is at c.in-Ok-graph.ensures.graph in
    absurd (lowering_is_not_zero t (answer_of c.in-Err-made.answer) r z)

pub returns-in-Err-made-clause-no_usage : goal.returns-in-Err-made-clause-no_usage
returns-in-Err-made-clause-no_usage g c = on_text_not_four c.in-Err-made.answer

pub returns-clause-reported : goal.returns-clause-reported
returns-clause-reported g c =
    let t = typed_program c.in-Ok.program in
    let typed : IsTypedText c.args.options.now.entry.now c.args.text.now t = rw c.in-Ok.is at c.in_ok-program.ensures.typed in
    let graph : IsGraphOf t c.in-Ok-made.icfg = rw c.in-Ok-made.is at c.in-Ok-graph.ensures.graph in
    decided_with c.args.options.now.entry.now c.args.options.now.limits c.args.text.now c.args.old.now t c.in-Ok-made.icfg c.decided_within-answer.result (g.H.Shelf.texts c.args.shelf.now) typed graph
    c.decided_within-answer.ensures.reported

pub returns-clause-safe : goal.returns-clause-safe
returns-clause-safe g c =
    let t = typed_program c.in-Ok.program in
    let typed : IsTypedText c.args.options.now.entry.now c.args.text.now t = rw c.in-Ok.is at c.in_ok-program.ensures.typed in
    let graph : IsGraphOf t c.in-Ok-made.icfg = rw c.in-Ok-made.is at c.in-Ok-graph.ensures.graph in
    decided_is_safe c.args.options.now.entry.now c.args.text.now t c.in-Ok-made.icfg c.decided_within-answer.result typed graph c.decided_within-answer.ensures.safe
