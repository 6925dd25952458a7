use Rattle.std.proofs.Common.{◌≡◌, map}
use Rattle.cond_jumps.specs.Conjunctions.{joined}
use Rattle.cond_jumps.specs.Conjs.{conjunction, conjunctions}
use Rattle.cond_jumps.proofs.joining.before_each.Given as goal

abbrev pub invariant-loop-conj : goal.invariant-loop-conj
invariant-loop-conj l = conjunctions l.list.items ≡ map (joined (conjunction l.first)) (conjunctions l.yielded)
