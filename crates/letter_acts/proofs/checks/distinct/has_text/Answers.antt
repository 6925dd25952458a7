use Rattle.std.proofs.Common.{rules}
use Rattle.std.proofs.lemmas.Iterator.{YieldsList-from_slice}
use borrow.Author.Tests.{tests}
use Rattle.letter_acts.proofs.CheckLemmas.{any_said}
use Rattle.letter_acts.proofs.checks.distinct.has_text.Goals as goal

pub returns : goal.returns
returns c = any_said c.args.text.now _ _ _ c.any.ensures.ran (YieldsList-from_slice c.args.texts.now cc) (λ x q k. search (rules, tests)) (λ x q k. search (rules, tests))
