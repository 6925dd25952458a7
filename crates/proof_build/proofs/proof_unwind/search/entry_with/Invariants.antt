use Rattle.proof_build.proofs.proof_unwind.search.entry_with.Given as goal

abbrev pub invariant-loop-candidate : goal.invariant-loop-candidate
invariant-loop-candidate l = Unit {0}
