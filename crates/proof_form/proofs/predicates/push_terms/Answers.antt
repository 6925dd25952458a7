use Rattle.proof_form.specs.Predicates.{term_text}
use Rattle.proof_form.proofs.WritingLaws.{one_written, all_written}
use Rattle.proof_form.proofs.predicates.push_terms.Goals as goal

pub loop-term-preserved : goal.loop-term-preserved
loop-term-preserved c = one_written term_text _ _ _ _ _ _ c.loop-term-test.true c.term-item.is c.in_ok-push_term.ensures c.loop-term.invariant

pub returns : goal.returns
returns c = all_written term_text _ _ _ _ c.loop-term-test.false c.loop-term.invariant
