use Rattle.std.proofs.Common.{◌≡◌, ◌++◌, drop}
use Rattle.nwa_reduce.specs.Ties.Marks.{leader_in, call_marks}
use Rattle.nwa_reduce.proofs.marking.add_calls.Given as goal

abbrev pub invariant-loop-letter : goal.invariant-loop-letter
invariant-loop-letter l =
    l.marks.items ++ call_marks (leader_in l.leaders) (drop l.letter-index l.edges) ≡ l.initial.marks.items ++ call_marks (leader_in l.leaders) l.edges
