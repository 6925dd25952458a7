use Rattle.std.proofs.Common.{rules}
use Rattle.std.proofs.lemmas.Iterator.{YieldsList-from_slice}
use borrow.Author.Tests.{tests}
use Rattle.letter_acts.specs.Invariant.{MayWrite}
use Rattle.letter_acts.proofs.CheckLemmas.{all_said}
use Rattle.letter_acts.proofs.checks.acts.all_may_be_written.Goals as goal

pub returns : goal.returns
returns c = all_said (MayWrite c.args.frame.now) _ _ _ c.all.ensures.ran (YieldsList-from_slice c.args.written.now cc) (λ x q k. search (rules, tests)) (λ x q k p. search (rules, tests))
