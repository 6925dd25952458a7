-- What contracts see of a product and of pairs.
use Rattle.std.specs.Prelude.{nat_eq}
use Rattle.std.specs.HashMap.{get}
use Rattle.nwa_base.specs.Groups.{grouped}
use Rattle.nwa_difference.specs.declared.product.Product.{Product}
use Rattle.nwa_difference.specs.declared.pairs.Pairs.{Pairs}
use Rattle.nwa_difference.specs.Ties.Making.{Made}
use Rattle.nwa_difference.specs.Ties.Stages.{Found, Stage}

-- the automata, the sets and the states of a product
unfoldable pub seen : Product → Made
seen p = record { first = p.first.now; sets = p.sets; covers = p.covers.items; product = p.nwa; states = p.states.keys }

-- the pairs, the entries of each state and the states of each entry that were gone through, and what has its edges
unfoldable pub found : Pairs → Found
found s = record {
  pairs = s.found.keys;
  callers = λ q. grouped (get nat_eq s.callers.by_key q);
  exits = λ n. grouped (get nat_eq s.exits.by_key n);
  opened = s.opened.keys;
  joined = s.joined.keys;
}

-- a product and the pairs that were found in it
abbrev pub stage : Product → Pairs → Stage
stage p s = record { product = seen p; found = found s }
