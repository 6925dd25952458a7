use Rattle.proof_names.specs.Predicates.{term_named}
use Rattle.proof_names.proofs.AllLaws.{Found}
use Rattle.proof_names.proofs.predicates.terms_named.Given as goal

abbrev pub invariant-loop-term : goal.invariant-loop-term
invariant-loop-term l = Found (term_named l.frame) l.terms l.term-index l.named.items
