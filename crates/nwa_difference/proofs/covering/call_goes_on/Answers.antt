use Rattle.std.proofs.Common.{◌∙◌, refl, sym}
use Rattle.nwa_difference.proofs.CoverLemmas.{call_one, call_none}
use Rattle.nwa_difference.proofs.covering.call_goes_on.Goals as goal

pub returns : goal.returns
returns c = λ yes.
    call_one c.args.first.now c.args.second.now c.args.covers.now c.args.edge c.in-Some.cover c.in-Some-end_by.end (sym c.cover_of.ensures ∙ c.in-Some.is)
    (c.has_cover.ensures yes) (c.if-not-has_call.ensures.0 refl)

pub returns-in_default : goal.returns-in_default
returns-in_default c = λ yes.
    call_none c.args.first.now c.args.second.now c.args.covers.now c.args.edge (sym c.cover_of.ensures ∙ c.in_default.is)
