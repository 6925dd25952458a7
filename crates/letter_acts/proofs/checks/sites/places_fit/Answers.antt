use Rattle.std.proofs.Common.{◌∙◌, ℕ, List, sym, subst}
use Rattle.letter_acts.specs.Invariant.{AreDistinct}
use Rattle.letter_acts.proofs.LoopLemmas.{so}
use Rattle.letter_acts.proofs.SiteLemmas.{same_sets}
use Rattle.letter_acts.proofs.checks.sites.places_fit.Goals as goal

pub returns-then-have_places : goal.returns-then-have_places
returns-then-have_places c =
    let same = c.have_places.ensures.0 c.if-have_places.true in
    so _ (subst (λ (ps : List ℕ). AreDistinct ps) (sym same) (c.ascend.ensures c.if-ascend.true), same_sets _ _ (same ∙ c.finals-finals.ensures))
