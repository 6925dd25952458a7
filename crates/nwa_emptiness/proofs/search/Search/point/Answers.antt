use Rattle.std.proofs.Common.{refl, sym}
use Rattle.nwa_emptiness.specs.Ties.Seen.{seen}
use Rattle.nwa_emptiness.proofs.SearchLemmas.{no_way_at, way_at}
use Rattle.nwa_emptiness.proofs.search.Search.point.Goals as goal

pub returns-in_default-way-clause-point : goal.returns-in_default-way-clause-point
unfolding seen
returns-in_default-way-clause-point c = no_way_at _ _ _ _ _ c.requires.ways (sym c.in_default-way.ensures)

pub returns-clause-point : goal.returns-clause-point
unfolding seen
returns-clause-point c =
    let pair = sym c.in-Some.ensures.key in
    (record { pair = pair; caller = (way_at _ _ _ _ _ _ _ c.requires.ways pair (sym c.in-Some-way.ensures)).caller }, refl)
