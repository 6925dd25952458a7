use Rattle.std.proofs.Common.{rules}
use Rattle.std.proofs.lemmas.Iterator.{YieldsList-from_slice}
use borrow.Author.Tests.{tests}
use Rattle.letter_acts.specs.Checks.{AgreesWithCall}
use Rattle.letter_acts.proofs.CheckLemmas.{all_said}
use Rattle.letter_acts.proofs.WidthLemmas.{all_along}
use Rattle.letter_acts.proofs.checks.edges.calls_agree.Goals as goal

pub returns : goal.returns
returns c =
    all_along (λ e. AgreesWithCall c.args.nwa.now e.0 e.1.id) _ c.calls.result.now _ c.calls.ensures
    (all_said (λ e. AgreesWithCall c.args.nwa.now e.0 e.1.id) _ _ _ c.all.ensures.ran (YieldsList-from_slice c.calls.result.now cc) (λ x q k. search (rules, tests)) (λ x q k p. search (rules, tests)))
