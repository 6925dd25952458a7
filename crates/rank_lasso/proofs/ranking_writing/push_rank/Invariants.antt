use Rattle.std.proofs.Common.{◌≡◌, ◌++◌, codes, take}
use Rattle.std.specs.List.{AllByRecursion, flat_map}
use Rattle.proof_form.specs.Predicates.{term_text}
use Rattle.proof_form.proofs.WritingLaws.{with_rest}
use Rattle.rank_lasso.specs.Ties.Writing.{term_form, IsSpelled}
use Rattle.rank_lasso.proofs.ranking_writing.push_rank.Given as goal

abbrev pub invariant-loop-term : goal.invariant-loop-term
invariant-loop-term l = record {
  written :
      with_rest (λ t. term_text (term_form l.frame t)) l.out.items l.terms l.term-index ≡ (l.fn.out.items ++ codes "rank") ++ flat_map (λ t. term_text (term_form l.frame t)) l.terms;
  spelled : AllByRecursion (IsSpelled l.frame) (take l.term-index l.terms);
}
