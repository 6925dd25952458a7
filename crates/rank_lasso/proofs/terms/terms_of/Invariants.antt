use Rattle.std.proofs.Common.{IsTrue, length}
use Rattle.proof_form.specs.Predicates.{term_text}
use Rattle.rank_lasso.specs.RankingText.{is_rank_term}
use Rattle.rank_lasso.proofs.Items.{AreItems}
use Rattle.rank_lasso.proofs.terms.terms_of.Given as goal

abbrev pub invariant-loop-rest : goal.invariant-loop-rest
invariant-loop-rest l = AreItems (λ t. IsTrue (is_rank_term t)) term_text l.bytes l.terms.items l.rest

abbrev pub decreases-loop-rest : goal.decreases-loop-rest
decreases-loop-rest l = length l.rest
