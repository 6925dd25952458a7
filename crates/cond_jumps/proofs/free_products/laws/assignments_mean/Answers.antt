use Rattle.cond_jumps.proofs.FreeProducts.MeanLemmas.{assignments_mean}
use Rattle.cond_jumps.proofs.free_products.laws.assignments_mean.Goals as goal

pub returns : goal.returns
returns c = assignments_mean
