use Rattle.std.proofs.Common.{rules}
use Rattle.std.proofs.lemmas.Iterator.{YieldsList-from_slice}
use borrow.Author.Tests.{tests}
use Rattle.std.specs.List.{AllByRecursion}
use Rattle.letter_acts.specs.Invariant.{MayName}
use Rattle.letter_acts.proofs.CheckLemmas.{all_said}
use Rattle.letter_acts.proofs.checks.acts.rows_may_be_named.Goals as goal

pub returns : goal.returns
returns c = all_said (λ r. AllByRecursion (λ t. MayName c.args.caller.now c.args.callee.now c.args.helpers t.0) r.terms) _ _ _ c.all.ensures.ran (YieldsList-from_slice c.args.rows.now cc) (λ x q k. search (rules, tests)) (λ x q k p. search (rules, tests))
