use Rattle.nwa_reduce.proofs.JoinLemmas.{JoinedBelow}
use Rattle.nwa_reduce.proofs.joining.joins.Given as goal

abbrev pub invariant-loop-entry : goal.invariant-loop-entry
invariant-loop-entry l = JoinedBelow l.nwa l.entry l.joins.items
