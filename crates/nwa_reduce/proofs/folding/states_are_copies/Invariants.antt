use Rattle.nwa_reduce.specs.Ties.Naming.{named}
use Rattle.nwa_reduce.proofs.CopyLemmas.{CopiesBelow}
use Rattle.nwa_reduce.proofs.folding.states_are_copies.Given as goal

abbrev pub invariant-loop-state : goal.invariant-loop-state
invariant-loop-state l = CopiesBelow l.nwa (named l.names.of.items) l.image l.state
