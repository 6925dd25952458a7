use Rattle.std.proofs.Common.{rules}
use Rattle.std.proofs.lemmas.Iterator.{YieldsList-from_slice}
use borrow.Author.Tests.{tests}
use Rattle.letter_acts.specs.Acts.{plain_act}
use Rattle.letter_acts.specs.Invariant.{IsActed}
use Rattle.letter_acts.specs.Parts.{alphabet}
use Rattle.letter_acts.proofs.CheckLemmas.{all_said, all_map}
use Rattle.letter_acts.proofs.LoopLemmas.{both_ways}
use Rattle.letter_acts.proofs.checks.acts.are_acted.Goals as goal

pub returns : goal.returns
returns c = both_ways _ _ _ (all_said (λ a. IsActed (alphabet c.args.acts.now c.args.frames.now) (plain_act a)) _ _ _ c.all.ensures.ran (YieldsList-from_slice c.args.acts.now cc) (λ x q k. search (rules, tests)) (λ x q k p. search (rules, tests))) (all_map plain_act _ _)
