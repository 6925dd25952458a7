use Rattle.std.proofs.Common.{rules}
use Rattle.std.proofs.lemmas.Iterator.{YieldsList-from_slice}
use borrow.Author.Tests.{tests}
use Rattle.letter_acts.proofs.CheckLemmas.{all_said}
use Rattle.triple_rows.specs.Reading.{NodeIsOver}
use Rattle.triple_rows.proofs.agreeing.nodes_are_over.Goals as goal

pub returns : goal.returns
returns c = all_said (NodeIsOver c.args.columns) _ _ _ c.all.ensures.ran (YieldsList-from_slice c.args.nodes.now cc) (λ x q k. search (rules, tests)) (λ x q k p. search (rules, tests))
