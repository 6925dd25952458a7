use Rattle.cond_jumps.proofs.FreeProducts.MeanLemmas.{conditions_mean}
use Rattle.cond_jumps.proofs.free_products.laws.conditions_mean.Goals as goal

pub returns : goal.returns
returns c = conditions_mean
