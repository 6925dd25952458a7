use Rattle.std.proofs.Common.{◌∙◌, refl, sym}
use Rattle.nwa_difference.proofs.CoverLemmas.{back_one, back_none, if_ok_then}
use Rattle.nwa_difference.proofs.returning.Returning.goes_on.Goals as goal

pub returns-in_default-clause-goes_on : goal.returns-in_default-clause-goes_on
returns-in_default-clause-goes_on c = λ yes.
    back_none c.args.first.now c.args.self.now c.args.covers.now c.args.edge (sym c.cover_of.ensures ∙ c.in_default.is)

pub returns-clause-goes_on : goal.returns-clause-goes_on
returns-clause-goes_on c =
    if_ok_then c.returns_from_callers.result c.returns_from_callers.ensures.all (λ b h yes.
    back_one c.args.first.now c.args.self.now c.args.covers.now c.args.edge c.in-Some.cover c.in-Some-end_by.end (sym c.cover_of.ensures ∙ c.in-Some.is)
    (rw (← c.self.view_is) (c.if-not-has_cover.ensures refl)) (h yes))
