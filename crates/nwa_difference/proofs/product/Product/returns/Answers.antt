use Rattle.nwa_difference.specs.Ties.Seen.{seen}
use Rattle.nwa_difference.proofs.OpeningLemmas.{has_returns}
use Rattle.nwa_difference.proofs.product.Product.returns.Goals as goal

pub returns : goal.returns
unfolding seen
returns c = has_returns (seen c.args.self.now) c.args.state c.parts-first.result _ _ c.parts-first.ensures c.backs_leaving.ensures c.is_empty.ensures
