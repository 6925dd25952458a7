use Rattle.nested_itp.proofs.NestedPredicates.RunningLaws.{TermsLeft}
use Rattle.nested_itp.proofs.nested_predicates.running.Running.add_terms.Given as goal

abbrev pub invariant-loop-i : goal.invariant-loop-i
invariant-loop-i l = TermsLeft l.terms l.fn.times l.i l.initial.self l.self
