use Rattle.std.proofs.Common.{◌≡◌, ◌-◌, ◌^◌}
use Rattle.nwa_emptiness.specs.Ties.Seen.{seen}
use Rattle.nwa_emptiness.specs.Ties.Search.{IsSearch}
use Rattle.nwa_emptiness.proofs.FoundLemmas.{IsDone}
use Rattle.nwa_emptiness.proofs.finding.seek.Given as goal

abbrev pub invariant-loop-point : goal.invariant-loop-point
invariant-loop-point l =
    record { search : IsSearch (seen l.search); nwa : (seen l.search).nwa ≡ l.nwa; done : IsDone (seen l.search) l.place }

abbrev pub decreases-loop-point : goal.decreases-loop-point
decreases-loop-point l = 2 ^ 64 - l.place
