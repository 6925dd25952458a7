use Rattle.std.proofs.Common.{◌≡◌, ◌++◌, take}
use Rattle.race_rounds.specs.Ties.Exact.{exact_edges}
use Rattle.race_rounds.proofs.exact.add_calls.Given as goal

abbrev pub invariant-loop-from : goal.invariant-loop-from
invariant-loop-from l = l.exact ≡ record l.initial.exact { calls = l.initial.exact.calls ++ exact_edges l.icfg (take l.from-index l.nwa.calls) }
