use Rattle.std.proofs.Common.{IsTrue, rules}
use Rattle.std.proofs.lemmas.Iterator.{YieldsList-from_slice}
use borrow.Author.Tests.{tests}
use Rattle.boogie_tree.specs.Names.{is_spelled}
use Rattle.letter_acts.proofs.CheckLemmas.{all_said}
use Rattle.letter_acts.proofs.checks.naming.columns_are_spelled.Goals as goal

pub returns : goal.returns
returns c = all_said (λ k. IsTrue (is_spelled k.1.name)) _ _ _ c.all.ensures.ran (YieldsList-from_slice c.args.frame.now cc) (λ x q k. search (rules, tests)) (λ x q k p. search (rules, tests))
