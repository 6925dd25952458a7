use Rattle.std.proofs.Common.{◌≡◌, ◌++◌, drop}
use Rattle.cond_jumps.specs.Conjs.{conjunctions}
use Rattle.cond_jumps.specs.Ties.JoinView.{each_moved}
use Rattle.cond_jumps.proofs.joining.with.Given as goal

abbrev pub invariant-loop-conj : goal.invariant-loop-conj
invariant-loop-conj l =
    conjunctions l.list.items ++ each_moved l.base (conjunctions (drop l.conj-index l.first)) (conjunctions l.second) ≡
    each_moved l.base (conjunctions l.first) (conjunctions l.second)
