use Rattle.automizer_top.specs.Ties.Answers.{answered}
use Rattle.automizer_top.proofs.EarlierLaws.{by_parts, by_program, by_earlier}
use Rattle.automizer_top.proofs.reporting.verified_by.Goals as goal

pub returns-then-options-clause-reported : goal.returns-then-options-clause-reported
returns-then-options-clause-reported g c =
    by_parts c.args.options.now.modular c.args.options.now.reuse c.args.options.now.entry.now c.args.options.now.limits c.args.text.now (answered c.in_ok-verified.field-0)
    (g.H.Shelf.texts c.args.shelf.now) c.if-options.true c.in_ok-verified.ensures.reported

pub returns-in_ok-verified-in-None-clause-reported : goal.returns-in_ok-verified-in-None-clause-reported
returns-in_ok-verified-in-None-clause-reported g c =
    by_program c.args.options.now.modular c.args.options.now.reuse c.args.options.now.entry.now c.args.options.now.limits c.args.text.now (answered c.in_ok-verified-in-None.field-0)
    (g.H.Shelf.texts c.args.shelf.now) c.if-options.false c.in-None.is c.in_ok-verified-in-None.ensures.reported

pub returns-in-Some-clause-reported : goal.returns-in-Some-clause-reported
returns-in-Some-clause-reported g c =
    by_earlier c.args.options.now.modular c.args.options.now.reuse c.in-Some.old c.args.options.now.entry.now c.args.options.now.limits c.args.text.now c.verified-in-Some.result
    (g.H.Shelf.texts c.args.shelf.now) c.if-options.false c.in-Some.is c.verified-in-Some.ensures.reported
