use Rattle.nwa_difference.proofs.ProductLemmas.{product_exact}
use Rattle.nwa_difference.proofs.laws.products_are_exact.Goals as goal

pub returns : goal.returns
returns c = product_exact
