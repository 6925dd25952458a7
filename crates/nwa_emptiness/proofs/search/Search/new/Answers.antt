use Rattle.nwa_emptiness.specs.Ties.Seen.{seen}
use Rattle.nwa_emptiness.proofs.SearchLemmas.{search_none}
use Rattle.nwa_emptiness.proofs.search.Search.new.Goals as goal

pub returns-clause-search : goal.returns-clause-search
unfolding seen
returns-clause-search c = search_none _ c.requires c.new.ensures.empty c.new-2.ensures.items c.new-3.ensures c.new-4.ensures
