use Rattle.std.proofs.Common.{◌≡◌, None, drop}
use Rattle.cond_jumps.specs.Ties.Totals.{terms_of, least}
use Rattle.cond_jumps.proofs.totals.least.Given as goal

abbrev pub invariant-loop-term : goal.invariant-loop-term
invariant-loop-term l = least l.low l.best (terms_of (drop l.term-index l.terms)) ≡ least l.low None (terms_of l.terms)
