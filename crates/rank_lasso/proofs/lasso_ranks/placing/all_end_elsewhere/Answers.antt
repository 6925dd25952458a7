use Rattle.std.proofs.Common.{◌≡◌, ℕ, rules}
use Rattle.std.proofs.lemmas.Iterator.{YieldsList-from_slice}
use borrow.Author.Tests.{tests}
use Rattle.letter_acts.proofs.CheckLemmas.{all_said}
use Rattle.rank_lasso.proofs.lasso_ranks.placing.all_end_elsewhere.Goals as goal

pub returns : goal.returns
returns c =
    all_said (λ (p : ℕ × ℕ). p.0 ≡ p.1 → ⊥) _ _ _ c.all.ensures.ran (YieldsList-from_slice c.args.pairs.now cc) (λ x q k. search (rules, tests)) (λ x q k p. search (rules, tests))
