use Rattle.std.proofs.Common.{rules}
use Rattle.std.proofs.lemmas.Iterator.{YieldsList-from_slice}
use borrow.Author.Tests.{tests}
use Rattle.letter_acts.specs.Invariant.{InsideFollows}
use Rattle.letter_acts.specs.Parts.{graph_of}
use Rattle.letter_acts.proofs.CheckLemmas.{all_said}
use Rattle.letter_acts.proofs.WidthLemmas.{all_along}
use Rattle.letter_acts.proofs.checks.edges.insides_follow.Goals as goal

pub returns : goal.returns
returns c =
    all_along (InsideFollows (graph_of c.args.parts.now)) _ c.insides.result.now _ c.insides.ensures
    (all_said (InsideFollows (graph_of c.args.parts.now)) _ _ _ c.all.ensures.ran (YieldsList-from_slice c.insides.result.now cc) (λ x q k. search (rules, tests)) (λ x q k p. search (rules, tests)))
