use Rattle.std.proofs.Common.{◌≡◌, ◌++◌, drop}
use Rattle.letter_acts.specs.Invariant.{site_places}
use Rattle.icfg_lower.proofs.building.set_finals.Given as goal

abbrev pub invariant-loop-site : goal.invariant-loop-site
invariant-loop-site l = record {
  added : l.nwa.finals ++ site_places (drop l.site-index l.sites) ≡ l.fn.nwa.finals ++ site_places l.sites;
  others : l.nwa ≡ record l.fn.nwa { finals = l.nwa.finals };
}
