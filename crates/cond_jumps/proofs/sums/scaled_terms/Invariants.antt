use Rattle.std.proofs.Common.{◌≡◌, ◌++◌, drop}
use Rattle.math_facts.specs.Terms.{scaled}
use Rattle.cond_jumps.specs.LongView.{long}
use Rattle.cond_jumps.specs.Ties.Totals.{terms_of}
use Rattle.cond_jumps.proofs.sums.scaled_terms.Given as goal

abbrev pub invariant-loop-term : goal.invariant-loop-term
invariant-loop-term l = terms_of l.products.items ++ scaled (long l.m) (terms_of (drop l.term-index l.terms)) ≡ scaled (long l.m) (terms_of l.terms)
