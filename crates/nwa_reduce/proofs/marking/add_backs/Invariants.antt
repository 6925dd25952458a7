use Rattle.std.proofs.Common.{◌≡◌, ◌++◌, drop}
use Rattle.nwa_reduce.specs.Ties.Marks.{leader_in, back_marks}
use Rattle.nwa_reduce.proofs.marking.add_backs.Given as goal

abbrev pub invariant-loop-before : goal.invariant-loop-before
invariant-loop-before l =
    l.marks.items ++ back_marks (leader_in l.leaders) (drop l.before-index l.edges) ≡ l.initial.marks.items ++ back_marks (leader_in l.leaders) l.edges
