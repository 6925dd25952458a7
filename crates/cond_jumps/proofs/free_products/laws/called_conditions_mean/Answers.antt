use Rattle.cond_jumps.proofs.FreeProducts.CalledLemmas.{called_conditions_mean}
use Rattle.cond_jumps.proofs.free_products.laws.called_conditions_mean.Goals as goal

pub returns : goal.returns
returns c = called_conditions_mean
