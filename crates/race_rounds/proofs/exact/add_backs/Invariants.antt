use Rattle.std.proofs.Common.{◌≡◌, ◌++◌, take}
use Rattle.race_rounds.specs.Ties.Exact.{exact_backs}
use Rattle.race_rounds.proofs.exact.add_backs.Given as goal

abbrev pub invariant-loop-from : goal.invariant-loop-from
invariant-loop-from l = l.exact ≡ record l.initial.exact { backs = l.initial.exact.backs ++ exact_backs l.icfg (take l.from-index l.nwa.backs) }
