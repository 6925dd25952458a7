use Rattle.std.proofs.Common.{rules}
use Rattle.std.proofs.lemmas.Iterator.{YieldsList-from_slice}
use borrow.Author.Tests.{tests}
use Rattle.nwa_base.specs.Members.{Member}
use Rattle.letter_acts.specs.Invariant.{site_places}
use Rattle.letter_acts.proofs.CheckLemmas.{all_said}
use Rattle.letter_acts.proofs.checks.sites.finals_have_sites.Goals as goal

pub returns : goal.returns
returns c = all_said (Member (site_places c.args.sites.now)) _ _ _ c.all.ensures.ran (YieldsList-from_slice c.args.finals.now cc) (λ x q k. search (rules, tests)) (λ x q k p. search (rules, tests))
