use Rattle.std.proofs.Common.{rules}
use Rattle.std.proofs.lemmas.Iterator.{YieldsList-from_slice}
use borrow.Author.Tests.{tests}
use Rattle.nwa_base.specs.Members.{Member}
use Rattle.letter_acts.proofs.CheckLemmas.{all_said}
use Rattle.letter_acts.proofs.checks.sites.places_are_final.Goals as goal

pub returns : goal.returns
returns c = all_said (λ s. Member c.args.nwa.now.finals s.place) _ _ _ c.all.ensures.ran (YieldsList-from_slice c.args.sites.now cc) (λ x q k. search (rules, tests)) (λ x q k p. search (rules, tests))
