use Rattle.std.proofs.Common.{ap, arith}
use Rattle.text_reports.specs.Answers.{answer_of}
use Rattle.automizer_top.specs.Ties.Answers.{answered}
use Rattle.text_reports.specs.ReportTexts.{Answer}
use Rattle.automizer_top.specs.Ties.PartViews.{RefusesParts, IsLoweredText}
use Rattle.automizer_top.proofs.PartFunctions.{check_reported, refused_reported, refused_is_three, lowered_is_safe}
use Rattle.automizer_top.proofs.UsageLaws.{on_text_not_four}
use Rattle.automizer_top.proofs.parts.checked.Goals as goal

pub proved_within-requires : goal.proved_within-requires
proved_within-requires g c =
    let l : IsLoweredText c.args.entry.now c.args.text.now c.in-Ok.lowered = rw c.in-Ok.is at c.in_ok-lowered.ensures in
    record { graphs = l.3 }

pub returns-in-Err-clause-reported : goal.returns-in-Err-clause-reported
returns-in-Err-clause-reported g c =
    let r : RefusesParts c.args.entry.now c.args.text.now (answered c.in-Err.answer) = rw c.in-Err.is at c.in_ok-lowered.ensures in
    refused_reported c.args.entry.now c.args.text.now c.args.second.now (answered c.in-Err.answer) (g.H.Shelf.texts c.args.shelf.now) r

pub returns-in-Err-clause-accepted : goal.returns-in-Err-clause-accepted
returns-in-Err-clause-accepted g c = λ e.
    let r : RefusesParts c.args.entry.now c.args.text.now (answered c.in-Err.answer) = rw c.in-Err.is at c.in_ok-lowered.ensures in
    let three = refused_is_three c.args.entry.now c.args.text.now (answered c.in-Err.answer) r in
    let status = ap (λ (a : Answer). a.status) e in
    absurd (omega (arith, three, status))

pub returns-in-Err-clause-no_usage : goal.returns-in-Err-clause-no_usage
returns-in-Err-clause-no_usage g c = λ e.
    let r : RefusesParts c.args.entry.now c.args.text.now (answered c.in-Err.answer) = rw c.in-Err.is at c.in_ok-lowered.ensures in
    let three = refused_is_three c.args.entry.now c.args.text.now (answered c.in-Err.answer) r in
    omega (arith, three, e)

pub returns-clause-reported : goal.returns-clause-reported
returns-clause-reported g c =
    let l : IsLoweredText c.args.entry.now c.args.text.now c.in-Ok.lowered = rw c.in-Ok.is at c.in_ok-lowered.ensures in
    check_reported c.args.entry.now c.args.text.now c.args.second.now c.in-Ok.lowered (answer_of c.in_ok-answer.answer) (g.H.Shelf.texts c.args.shelf.now) l c.in_ok-answer.ensures.reported

pub returns-clause-accepted : goal.returns-clause-accepted
returns-clause-accepted g c = λ e.
    let l : IsLoweredText c.args.entry.now c.args.text.now c.in-Ok.lowered = rw c.in-Ok.is at c.in_ok-lowered.ensures in
    lowered_is_safe c.args.entry.now c.args.text.now c.in-Ok.lowered l (c.in_ok-answer.ensures.accepted e)

pub returns-clause-no_usage : goal.returns-clause-no_usage
returns-clause-no_usage g c = on_text_not_four c.in_ok-answer.answer
