use Rattle.nwa_determinise.proofs.ReadLemmas.{accepted_by_set}
use Rattle.nwa_determinise.proofs.laws.read_words_are_accepted_by_their_set.Goals as goal

pub returns : goal.returns
returns c = accepted_by_set
