use Rattle.proof_reuse.specs.Ties.Sets.{InsertsAll}
use Rattle.proof_reuse.proofs.sets.add_pairs.Given as goal

abbrev pub invariant-loop-pair : goal.invariant-loop-pair
invariant-loop-pair l = InsertsAll l.initial.set.keys l.yielded l.set.keys
