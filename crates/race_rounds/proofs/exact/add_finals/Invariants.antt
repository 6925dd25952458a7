use Rattle.std.proofs.Common.{◌≡◌, ◌++◌, take}
use Rattle.race_rounds.proofs.exact.add_finals.Given as goal

abbrev pub invariant-loop-last : goal.invariant-loop-last
invariant-loop-last l = l.exact ≡ record l.initial.exact { finals = l.initial.exact.finals ++ take l.last-index l.nwa.finals }
