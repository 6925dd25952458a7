use Rattle.std.proofs.Common.{◌-◌, ◌^◌}
use Rattle.nwa_reduce.specs.Ties.Rows.{row_of}
use Rattle.nwa_reduce.proofs.SearchLemmas.{IsSearchedTo}
use Rattle.nwa_reduce.proofs.searching.search.Given as goal

abbrev pub invariant-loop-state : goal.invariant-loop-state
invariant-loop-state l = IsSearchedTo l.place (λ q. row_of l.steps.rows.items q) l.roots l.found

abbrev pub decreases-loop-state : goal.decreases-loop-state
decreases-loop-state l = 2 ^ 64 - l.place
