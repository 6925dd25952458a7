use Rattle.nwa_base.specs.Members.{Member}
use Rattle.letter_acts.specs.Invariant.{site_places}
use Rattle.letter_acts.proofs.LoopLemmas.{refuted}
use Rattle.letter_acts.proofs.WidthLemmas.{all_along}
use Rattle.letter_acts.proofs.SiteLemmas.{sets_from_all, all_from_sets}
use Rattle.letter_acts.proofs.checks.sites.places_match.Goals as goal

pub returns-then-places_are_final : goal.returns-then-places_are_final
returns-then-places_are_final c =
    let sites = c.args.sites.now in
    let have = all_along (Member (site_places sites)) _ c.finals.result.now _ c.finals.ensures c.finals_have_sites.ensures in (
      λ e. sets_from_all sites c.args.nwa.now.finals (c.places_are_final.ensures.0 c.if-places_are_final.true) (have.0 e),
      λ h. have.1 (all_from_sets sites c.args.nwa.now.finals h).1,
    )

pub returns-else-places_are_final : goal.returns-else-places_are_final
returns-else-places_are_final c = (
  λ e. absurd (refuted _ _ c.places_are_final.ensures c.if-places_are_final.false (c.places_are_final.ensures.0 e)),
  λ h. c.places_are_final.ensures.1 (all_from_sets c.args.sites.now c.args.nwa.now.finals h).0,
)
