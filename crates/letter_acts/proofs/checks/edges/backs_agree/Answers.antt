use Rattle.std.proofs.Common.{rules}
use Rattle.std.proofs.lemmas.Iterator.{YieldsList-from_slice}
use borrow.Author.Tests.{tests}
use Rattle.letter_acts.specs.Checks.{BackAgrees}
use Rattle.letter_acts.proofs.CheckLemmas.{all_said}
use Rattle.letter_acts.proofs.WidthLemmas.{all_along}
use Rattle.letter_acts.proofs.checks.edges.backs_agree.Goals as goal

pub returns : goal.returns
returns c =
    all_along (BackAgrees c.args.nwa.now) _ c.backs.result.now _ c.backs.ensures
    (all_said (BackAgrees c.args.nwa.now) _ _ _ c.all.ensures.ran (YieldsList-from_slice c.backs.result.now cc) (λ x q k. search (rules, tests)) (λ x q k p. search (rules, tests)))
