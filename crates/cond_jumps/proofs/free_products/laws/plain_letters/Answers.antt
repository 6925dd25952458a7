use Rattle.cond_jumps.proofs.FreeProducts.NarrowLemmas.{plain_letters}
use Rattle.cond_jumps.proofs.free_products.laws.plain_letters.Goals as goal

pub returns : goal.returns
returns c = plain_letters
