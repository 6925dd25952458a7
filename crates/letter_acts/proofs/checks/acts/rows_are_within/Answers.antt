use Rattle.std.proofs.Common.{rules}
use Rattle.std.proofs.lemmas.Iterator.{YieldsList-from_slice}
use borrow.Author.Tests.{tests}
use Rattle.math_facts.specs.Terms.{IsBelow}
use Rattle.letter_acts.proofs.CheckLemmas.{all_said}
use Rattle.letter_acts.proofs.checks.acts.rows_are_within.Goals as goal

pub returns : goal.returns
returns c = all_said (λ r. IsBelow c.args.width r.terms) _ _ _ c.all.ensures.ran (YieldsList-from_slice c.args.rows.now cc) (λ x q k. search (rules, tests)) (λ x q k p. search (rules, tests))
