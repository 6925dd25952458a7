use Rattle.proof_reuse.specs.Ties.Sets.{InsertsAll}
use Rattle.proof_reuse.proofs.sets.add_threes.Given as goal

abbrev pub invariant-loop-three : goal.invariant-loop-three
invariant-loop-three l = InsertsAll l.initial.set.keys l.yielded l.set.keys
