use Rattle.cond_jumps.proofs.FreeProducts.LetterLemmas.{letters_follow}
use Rattle.cond_jumps.proofs.free_products.laws.letters_follow.Goals as goal

pub returns : goal.returns
returns c = letters_follow
