use Rattle.std.proofs.Common.{◌≡◌, ◌++◌, drop}
use Rattle.nwa_reduce.specs.Ties.Marks.{leader_in, before_marks}
use Rattle.nwa_reduce.proofs.marking.add_befores.Given as goal

abbrev pub invariant-loop-exit : goal.invariant-loop-exit
invariant-loop-exit l =
    l.marks.items ++ before_marks (leader_in l.leaders) (drop l.exit-index l.edges) ≡ l.initial.marks.items ++ before_marks (leader_in l.leaders) l.edges
