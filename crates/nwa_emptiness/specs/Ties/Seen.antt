-- What contracts see of a search.
use Rattle.std.specs.Prelude.{nat_eq}
use Rattle.std.specs.HashMap.{get}
use Rattle.nwa_base.specs.Groups.{grouped}
use Rattle.nwa_emptiness.specs.declared.search.Search.{Search}
use Rattle.nwa_emptiness.specs.Ties.Search.{Searched}

-- the automaton, the pairs and the ways of a search, and the places of each state and of each entry
unfoldable pub seen : Search → Searched
seen s = record {
  nwa = s.nwa.now;
  pairs = s.pairs.keys;
  ways = s.ways.items;
  by_state = λ q. grouped (get nat_eq s.by_state.by_key q);
  by_entry = λ n. grouped (get nat_eq s.by_entry.by_key n);
}
