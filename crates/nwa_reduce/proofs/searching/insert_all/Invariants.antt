use Rattle.std.proofs.Common.{take}
use Rattle.nwa_reduce.specs.Ties.Searching.{Inserts}
use Rattle.nwa_reduce.proofs.searching.insert_all.Given as goal

abbrev pub invariant-loop-state : goal.invariant-loop-state
invariant-loop-state l = Inserts l.initial.found (take l.state-index l.states) l.found
