use Rattle.std.proofs.Common.{◌≡◌, ◌++◌, take}
use Rattle.race_rounds.specs.Ties.Exact.{exact_edges}
use Rattle.race_rounds.proofs.exact.add_insides.Given as goal

abbrev pub invariant-loop-from : goal.invariant-loop-from
invariant-loop-from l = l.exact ≡ record l.initial.exact { insides = l.initial.exact.insides ++ exact_edges l.icfg (take l.from-index l.nwa.insides) }
