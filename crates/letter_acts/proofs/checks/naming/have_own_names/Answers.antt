use Rattle.std.proofs.Common.{rules}
use Rattle.std.proofs.lemmas.Iterator.{YieldsList-from_slice}
use borrow.Author.Tests.{tests}
use Rattle.letter_acts.specs.Checks.{HasOwnNames}
use Rattle.letter_acts.proofs.CheckLemmas.{all_said, all_map}
use Rattle.letter_acts.proofs.LoopLemmas.{both_ways}
use Rattle.letter_acts.proofs.checks.naming.have_own_names.Goals as goal

pub returns : goal.returns
returns c = both_ways _ _ _ (all_said (λ f. HasOwnNames f.columns.items) _ _ _ c.all.ensures.ran (YieldsList-from_slice c.args.frames.now cc) (λ x q k. search (rules, tests)) (λ x q k p. search (rules, tests))) (all_map (λ f. f.columns.items) _ _)
