use Rattle.std.proofs.Common.{map}
use Rattle.modular_cut.specs.View.{plain_part}
use Rattle.text_reports.specs.Answers.{answer_of}
use Rattle.automizer_top.specs.Parts.{ReportsPartProofs}
use Rattle.text_reports.proofs.TextLaws.{second_refused, second_answered}
use Rattle.automizer_top.proofs.parts.proved_within.Goals as goal

pub returns-in_default-clause-reported : goal.returns-in_default-clause-reported
returns-in_default-clause-reported g c =
    second_refused c.args.second.now (ReportsPartProofs (map plain_part c.args.lowered.now.parts.items)) (g.H.Shelf.texts c.args.shelf.now) (rw c.in_default.is at c.in_ok-text.ensures.found)

pub returns-clause-reported : goal.returns-clause-reported
returns-clause-reported g c =
    second_answered c.args.second.now c.in-Some.text.items (ReportsPartProofs (map plain_part c.args.lowered.now.parts.items)) (answer_of c.in_ok-proved.field-0) (g.H.Shelf.texts c.args.shelf.now)
    (rw c.in-Some.is at c.in_ok-text.ensures.found)
    (rw (← c.deref.ensures.value) c.in_ok-proved.ensures.reported)
