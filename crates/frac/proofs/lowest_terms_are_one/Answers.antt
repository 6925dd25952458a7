use Rattle.frac.proofs.LowestTerms.{same_lowest}
use Rattle.frac.proofs.lowest_terms_are_one.Goals as goal

pub returns : goal.returns
returns c = same_lowest
