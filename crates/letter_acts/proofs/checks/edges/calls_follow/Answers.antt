use Rattle.std.proofs.Common.{rules}
use Rattle.std.proofs.lemmas.Iterator.{YieldsList-from_slice}
use borrow.Author.Tests.{tests}
use Rattle.letter_acts.specs.Invariant.{CallFollows}
use Rattle.letter_acts.specs.Parts.{graph_of}
use Rattle.letter_acts.proofs.CheckLemmas.{all_said}
use Rattle.letter_acts.proofs.WidthLemmas.{all_along}
use Rattle.letter_acts.proofs.checks.edges.calls_follow.Goals as goal

pub returns : goal.returns
returns c =
    all_along (CallFollows (graph_of c.args.parts.now)) _ c.calls.result.now _ c.calls.ensures
    (all_said (CallFollows (graph_of c.args.parts.now)) _ _ _ c.all.ensures.ran (YieldsList-from_slice c.calls.result.now cc) (λ x q k. search (rules, tests)) (λ x q k p. search (rules, tests)))
