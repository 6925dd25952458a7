use Rattle.std.proofs.Common.{◌≡◌, ◌++◌, map, drop}
use Rattle.cond_jumps.specs.Conjunctions.{joined}
use Rattle.cond_jumps.specs.Conjs.{conjunction, conjunctions}
use Rattle.cond_jumps.specs.Moving.{moved}
use Rattle.cond_jumps.proofs.joining.with_each.Given as goal

abbrev pub invariant-loop-conj : goal.invariant-loop-conj
invariant-loop-conj l =
    conjunctions l.list.items ++ map (joined (conjunction l.first)) (map (moved l.base l.first.helpers) (conjunctions (drop l.conj-index l.second))) ≡
    conjunctions l.fn.list.items ++ map (joined (conjunction l.first)) (map (moved l.base l.first.helpers) (conjunctions l.second))
