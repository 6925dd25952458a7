use Rattle.nwa_emptiness.proofs.SpelledLemmas.{reached_accepted}
use Rattle.nwa_emptiness.proofs.laws.reached_words_are_accepted.Goals as goal

pub returns : goal.returns
returns c = reached_accepted
