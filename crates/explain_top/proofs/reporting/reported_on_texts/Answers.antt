use Rattle.explain_top.specs.Ties.Views.{asked}
use Rattle.explain_top.proofs.RunLaws.{past_limit, text_explained, text_says, told_so, told_safe, told_failing, told_leading}
use Rattle.explain_top.proofs.reporting.reported_on_texts.Goals as goal

pub returns-in_default-clause-reported : goal.returns-in_default-clause-reported
returns-in_default-clause-reported g c = λ words ask.
    past_limit words (asked c.args.request.now) ask (g.H.Shelf.texts c.args.shelf.now) (rw c.in_default.is at c.in_ok-text.ensures.found)

pub returns-clause-reported : goal.returns-clause-reported
returns-clause-reported g c = λ words ask.
    text_explained words (asked c.args.request.now) ask c.in-Some.text.items c.explaining.result (g.H.Shelf.texts c.args.shelf.now)
    (rw c.in-Some.is at c.in_ok-text.ensures.found)
    (rw (← c.in_ok-text.ensures.texts, ← c.deref.ensures.value) c.explaining.ensures.reported)

pub returns-clause-told : goal.returns-clause-told
returns-clause-told g c = λ words ask.
    told_so words (asked c.args.request.now) ask c.explaining.result (g.H.Shelf.texts c.args.shelf.now)
    (text_says words (asked c.args.request.now) ask c.in-Some.text.items c.explaining.result (g.H.Shelf.texts c.args.shelf.now)
    (rw c.in-Some.is at c.in_ok-text.ensures.found)
    (rw (← c.in_ok-text.ensures.texts, ← c.deref.ensures.value) c.explaining.ensures.reported)
    (rw (← c.in_ok-text.ensures.texts, ← c.deref.ensures.value) c.explaining.ensures.safe))

pub returns-clause-safe : goal.returns-clause-safe
returns-clause-safe g c = λ words ask.
    told_safe words (asked c.args.request.now) ask c.explaining.result (g.H.Shelf.texts c.args.shelf.now)
    (text_says words (asked c.args.request.now) ask c.in-Some.text.items c.explaining.result (g.H.Shelf.texts c.args.shelf.now)
    (rw c.in-Some.is at c.in_ok-text.ensures.found)
    (rw (← c.in_ok-text.ensures.texts, ← c.deref.ensures.value) c.explaining.ensures.reported)
    (rw (← c.in_ok-text.ensures.texts, ← c.deref.ensures.value) c.explaining.ensures.safe))

pub returns-clause-fails : goal.returns-clause-fails
returns-clause-fails g c = λ words ask.
    told_failing words (asked c.args.request.now) ask c.explaining.result (g.H.Shelf.texts c.args.shelf.now)
    (text_says words (asked c.args.request.now) ask c.in-Some.text.items c.explaining.result (g.H.Shelf.texts c.args.shelf.now)
    (rw c.in-Some.is at c.in_ok-text.ensures.found)
    (rw (← c.in_ok-text.ensures.texts, ← c.deref.ensures.value) c.explaining.ensures.reported)
    (rw (← c.in_ok-text.ensures.texts, ← c.deref.ensures.value) c.explaining.ensures.safe))

pub returns-clause-traced : goal.returns-clause-traced
returns-clause-traced g c = λ words ask.
    told_leading words (asked c.args.request.now) ask c.explaining.result (g.H.Shelf.texts c.args.shelf.now)
    (text_says words (asked c.args.request.now) ask c.in-Some.text.items c.explaining.result (g.H.Shelf.texts c.args.shelf.now)
    (rw c.in-Some.is at c.in_ok-text.ensures.found)
    (rw (← c.in_ok-text.ensures.texts, ← c.deref.ensures.value) c.explaining.ensures.reported)
    (rw (← c.in_ok-text.ensures.texts, ← c.deref.ensures.value) c.explaining.ensures.safe))
