use Rattle.std.proofs.Common.{rules}
use Rattle.std.proofs.lemmas.Iterator.{YieldsList-from_slice}
use borrow.Author.Tests.{tests}
use Rattle.letter_acts.specs.Invariant.{MayName}
use Rattle.letter_acts.proofs.CheckLemmas.{all_said}
use Rattle.letter_acts.proofs.WidthLemmas.{all_along}
use Rattle.letter_acts.proofs.checks.acts.row_may_be_named.Goals as goal

pub returns : goal.returns
returns c =
    all_along (λ t. MayName c.args.caller.now c.args.callee.now c.args.helpers t.0) _ c.terms.result.now _ c.terms.ensures.value
    (all_said (λ t. MayName c.args.caller.now c.args.callee.now c.args.helpers t.0) _ _ _ c.all.ensures.ran (YieldsList-from_slice c.terms.result.now cc) (λ x q k. search (rules, tests)) (λ x q k p. search (rules, tests)))
