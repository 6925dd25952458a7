use Rattle.std.proofs.Common.{rules}
use Rattle.std.proofs.lemmas.Iterator.{YieldsList-from_slice}
use borrow.Author.Tests.{tests}
use Rattle.letter_acts.proofs.CheckLemmas.{any_image_said}
use Rattle.letter_acts.proofs.checks.sites.has_place.Goals as goal

pub returns : goal.returns
returns c = any_image_said (λ s. s.place) c.args.place _ _ _ c.any.ensures.ran (YieldsList-from_slice c.args.sites.now cc) (λ x q k. search (rules, tests)) (λ x q k. search (rules, tests))
