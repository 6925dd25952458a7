use Rattle.cond_jumps.proofs.FreeProducts.NarrowLemmas.{letters_are_narrow}
use Rattle.cond_jumps.proofs.free_products.laws.letters_are_narrow.Goals as goal

pub returns : goal.returns
returns c = letters_are_narrow
