use Rattle.typed_tree.specs.TypingRules.TypedParts.{typed_program}
use Rattle.text_reports.specs.Answers.{answer_of}
use Rattle.automizer_top.specs.Ties.EarlierViews.{IsLeftOf, RefusesText}
use Rattle.automizer_top.proofs.EarlierLaws.{left_is_given, reuse_reported, reuse_refused}
use Rattle.automizer_top.proofs.earlier.decided_by.Goals as goal

pub decided-requires-clause-given : goal.decided-requires-clause-given
decided-requires-clause-given g c κs within =
    let left : IsLeftOf c.args.icfg.now c.args.text.now c.in-Ok.first = rw c.in-Ok.is at c.in_ok-first.ensures in
    left_is_given (typed_program c.args.program.now) c.args.icfg.now c.args.text.now c.in-Ok.first c.requires.graph.value left

pub returns-in-Ok-clause-reported : goal.returns-in-Ok-clause-reported
returns-in-Ok-clause-reported g c =
    let left : IsLeftOf c.args.icfg.now c.args.text.now c.in-Ok.first = rw c.in-Ok.is at c.in_ok-first.ensures in
    reuse_reported c.args.limits (typed_program c.args.program.now) c.args.icfg.now c.args.text.now c.in-Ok.first c.decided.result c.requires.graph.value left
    c.decided.ensures.reported c.decided.ensures.short

pub returns-in-Err-clause-reported : goal.returns-in-Err-clause-reported
returns-in-Err-clause-reported g c =
    let none : RefusesText c.args.text.now (answer_of c.in-Err.answer) = rw c.in-Err.is at c.in_ok-first.ensures in
    reuse_refused c.args.limits (typed_program c.args.program.now) c.args.text.now (answer_of c.in-Err.answer) none
