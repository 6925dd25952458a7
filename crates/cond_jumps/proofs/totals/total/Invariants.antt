use Rattle.std.proofs.Common.{◌≡◌, ◌+ℤ◌, drop}
use Rattle.math_facts.specs.Terms.{coefficient}
use Rattle.cond_jumps.specs.LongView.{long}
use Rattle.cond_jumps.specs.Ties.Totals.{terms_of}
use Rattle.cond_jumps.proofs.totals.total.Given as goal

abbrev pub invariant-loop-term : goal.invariant-loop-term
invariant-loop-term l = long l.sum +ℤ coefficient l.column (terms_of (drop l.term-index l.terms)) ≡ coefficient l.column (terms_of l.terms)
