use Rattle.std.proofs.Common.{◌∙◌, ℕ, ℤ, List, subst, sym}
use Rattle.nested_itp.specs.NestedPredicates.Runnings.{differences, AreSumTerms}
use Rattle.nested_itp.proofs.NestedPredicates.SumLaws.{are_sum_terms}
use Rattle.nested_itp.proofs.nested_predicates.sums.sum.Goals as goal

pub inequality-requires-clause-terms : goal.inequality-requires-clause-terms
inequality-requires-clause-terms c =
    subst (λ (ts : List (ℕ × ℤ)). AreSumTerms ts) (sym (c.deref.ensures.value ∙ c.in_ok-coefficients.ensures.value))
    (are_sum_terms (differences c.args.running.now.columns.items c.args.known.now c.args.here.now) c.in_ok-coefficients.ensures.fits)
