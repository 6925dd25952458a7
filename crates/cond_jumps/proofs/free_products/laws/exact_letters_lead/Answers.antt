use Rattle.cond_jumps.proofs.FreeProducts.LetterLemmas.{exact_letters_lead}
use Rattle.cond_jumps.proofs.free_products.laws.exact_letters_lead.Goals as goal

pub returns : goal.returns
returns c = exact_letters_lead
