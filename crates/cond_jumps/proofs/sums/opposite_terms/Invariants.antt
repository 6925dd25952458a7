use Rattle.std.proofs.Common.{◌≡◌, ◌++◌, drop}
use Rattle.math_facts.specs.Terms.{opposite}
use Rattle.cond_jumps.specs.Ties.Totals.{terms_of}
use Rattle.cond_jumps.proofs.sums.opposite_terms.Given as goal

abbrev pub invariant-loop-term : goal.invariant-loop-term
invariant-loop-term l = terms_of l.opposites.items ++ opposite (terms_of (drop l.term-index l.terms)) ≡ opposite (terms_of l.terms)
