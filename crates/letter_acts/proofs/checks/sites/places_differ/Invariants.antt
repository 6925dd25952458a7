use Rattle.std.proofs.Common.{◌↔◌, drop}
use Rattle.letter_acts.specs.Invariant.{AreDistinct, site_places}
use Rattle.letter_acts.proofs.checks.sites.places_differ.Given as goal

abbrev pub invariant-loop-i : goal.invariant-loop-i
invariant-loop-i l = AreDistinct (site_places (drop l.i l.sites)) ↔ AreDistinct (site_places l.sites)
