use Rattle.std.proofs.Common.{◌≡◌, ◌++◌, drop}
use Rattle.cond_jumps.specs.Moving.{moved_terms}
use Rattle.cond_jumps.proofs.joining.moved_terms.Given as goal

abbrev pub invariant-loop-column : goal.invariant-loop-column
invariant-loop-column l = l.all.items ++ moved_terms l.base l.by (drop l.column-index l.terms) ≡ moved_terms l.base l.by l.terms
