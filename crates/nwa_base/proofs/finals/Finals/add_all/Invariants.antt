use Rattle.std.proofs.Common.{◌≡◌, ◌++◌, take}
use Rattle.nwa_base.proofs.finals.Finals.add_all.Given as goal

abbrev pub invariant-loop-q : goal.invariant-loop-q
invariant-loop-q l = l.self ≡ l.initial.self ++ take l.q-index l.states
